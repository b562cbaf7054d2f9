use Rattle.std.specs.Prelude.{List, ◌∷◌}
use Rattle.std.specs.Vec.Iter.{into_iter_items}
use Rattle.cells.specs.Values.{RowValue}
use Rattle.crew.specs.Gathered.{Gathers}
use Rattle.crew.specs.Gathering.{AreMadeOf}
use Rattle.crew.proofs.gathering.all_together.Given as goal

abbrev pub invariant-loop-one : goal.invariant-loop-one
invariant-loop-one g l = (rows : List RowValue) → AreMadeOf (Gathers l.plan) rows l.fn.gathered.items → AreMadeOf (Gathers l.plan) rows (l.all ∷ into_iter_items l.one-iterator)
