use Rattle.std.proofs.Common.{List, take}
use Rattle.cells.specs.Values.{RowValue}
use Rattle.columns.specs.Columns.{Hold}
use Rattle.groups.specs.Keeping.{KeptBy}
use Rattle.groups.proofs.asking.asked_of_each.Given as goal

abbrev pub invariant-loop-place : goal.invariant-loop-place
invariant-loop-place l = (all : List RowValue) → Hold all l.columns → KeptBy l.predicate all (take l.place-index l.places) l.kept.items
