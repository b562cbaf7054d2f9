use Rattle.std.proofs.Common.{◌<◌, ℕ, map}
use Rattle.prepare.specs.Proposals.{IsKeyAt, rows_of}
use Rattle.prepare.proofs.keys.key_of.Given as goal

-- none of the columns so far may be the key
abbrev pub invariant-loop-place : goal.invariant-loop-place
invariant-loop-place l = (other : ℕ) → other < l.place → IsKeyAt (rows_of (map (λ p. p.items) l.parts)) l.types other → ⊥
