use Rattle.std.proofs.Common.{◌≡◌, ◌++◌, length, map}
use Rattle.prepare.specs.Proposals.{rows_of}
use Rattle.prepare.proofs.rows.Rows.next_part.Given as goal

-- what is left was left from the start
abbrev pub invariant-loop-part : goal.invariant-loop-part
invariant-loop-part l = l.fn.self ≡ l.self-inside.records ++ rows_of (map (λ p. p.items) l.self-inside.parts.now)

abbrev pub decreases-loop-part : goal.decreases-loop-part
decreases-loop-part l = length l.self-inside.parts.now
