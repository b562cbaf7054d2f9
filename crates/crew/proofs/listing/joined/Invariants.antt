use Rattle.std.specs.Prelude.{List, ◌∷◌}
use Rattle.std.specs.Vec.Iter.{into_iter_items}
use Rattle.cells.specs.Values.{RowValue}
use Rattle.crew.specs.Gathering.{AreMadeOf}
use Rattle.groups.specs.Folds.{Folds}
use Rattle.crew.proofs.listing.joined.Given as goal

abbrev pub invariant-loop-folding : goal.invariant-loop-folding
invariant-loop-folding g l = (rows : List RowValue) → AreMadeOf (Folds l.plan) rows l.fn.foldings.items → AreMadeOf (Folds l.plan) rows (l.all ∷ into_iter_items l.folding-iterator)
