use Rattle.std.specs.Prelude.{List}
use Rattle.cells.specs.Values.{RowValue}
use Rattle.groups.specs.Told.{Tells}
use Rattle.groups.proofs.ToldLemmas.{Made}
use Rattle.groups.proofs.partial.Partial.of_told.Given as goal

abbrev pub invariant-loop-set : goal.invariant-loop-set
invariant-loop-set g l = (rows : List RowValue) → Tells l.plan rows l.fn.sets.items → Made g.H.KeyHash-2.hash_of l.plan rows l.tries.items l.set-iterator.rest.items
