use Rattle.std.proofs.Common.{length, map}
use Rattle.prepare.specs.Proposals.{column_of, rows_of}
use Rattle.prepare.proofs.KeysLemmas.{ReachedKeys}
use Rattle.prepare.proofs.keys.are_keys.Given as goal

abbrev pub invariant-loop-met : goal.invariant-loop-met
invariant-loop-met g l = ReachedKeys g.V.PartialEq.eq g.V.Value.of (column_of l.place (rows_of (map (λ p. p.items) l.parts))) (column_of l.place l.rows) l.met.keys

abbrev pub decreases-loop-met : goal.decreases-loop-met
decreases-loop-met g l = length l.rows
