use Rattle.std.proofs.Common.{length}
use Rattle.cells.proofs.ColumnsLemmas.{Kept}
use Rattle.cells.proofs.schema.column_definitions.Given as goal

abbrev pub invariant-loop-found : goal.invariant-loop-found
invariant-loop-found l = Kept l.tokens l.found.items l.rest

abbrev pub decreases-loop-found : goal.decreases-loop-found
decreases-loop-found l = length l.rest
