use Rattle.std.proofs.Common.{length, map}
use Rattle.prepare.specs.Proposals.{rows_of}
use Rattle.prepare.proofs.TypesLemmas.{ReachedTypes}
use Rattle.prepare.proofs.kinds.types_of.Given as goal

abbrev pub invariant-loop-row : goal.invariant-loop-row
invariant-loop-row l = ReachedTypes (rows_of (map (λ p. p.items) l.parts)) l.rows l.count l.types.items

abbrev pub decreases-loop-row : goal.decreases-loop-row
decreases-loop-row l = length l.rows
