use Rattle.std.proofs.Common.{◌≡◌, List, get_or, take}
use Rattle.cells.specs.Values.{RowValue}
use Rattle.columns.specs.Columns.{Hold}
use Rattle.groups.specs.Groups.{tuple_of}
use Rattle.groups.specs.Numbered.{no_row}
use Rattle.groups.proofs.asking.put_tuple.Given as goal

abbrev pub invariant-loop-index : goal.invariant-loop-index
invariant-loop-index l = (all : List RowValue) → Hold all l.columns → l.tuple.items ≡ tuple_of (take l.index-index l.named) (get_or all l.place no_row)
