use Rattle.std.proofs.Common.{◌≡◌, List, take}
use Rattle.cells.specs.Values.{RowValue}
use Rattle.columns.specs.Columns.{Hold}
use Rattle.groups.specs.Numbered.{picked_rows}
use Rattle.groups.specs.Pools.{IsPool, sets_of}
use Rattle.groups.proofs.columnar.sources_from.Given as goal

abbrev pub invariant-loop-source : goal.invariant-loop-source
invariant-loop-source g l = record {
  sets : sets_of l.filled.items ≡ sets_of (take l.source-index l.sources);
  pool : (all : List RowValue) → Hold all l.columns → IsPool l.aggregations (picked_rows all l.rows) l.filled.items;
}
