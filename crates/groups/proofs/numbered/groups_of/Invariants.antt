use Rattle.std.proofs.Common.{List, length, take}
use Rattle.cells.specs.Values.{RowValue}
use Rattle.columns.specs.Columns.{Hold}
use Rattle.groups.specs.Numbered.{AreNumbered, NumberAll, picked_rows}
use Rattle.groups.proofs.numbered.groups_of.Given as goal

abbrev pub invariant-loop-index : goal.invariant-loop-index
invariant-loop-index l = record {
  all : NumberAll (length l.rows) l.groups.numbers.items l.groups.tuples.items;
  numbered : (all : List RowValue) → Hold all l.columns → AreNumbered (take l.index-index l.set) (picked_rows all l.rows) l.groups.numbers.items l.groups.tuples.items;
}
