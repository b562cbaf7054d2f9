use Rattle.std.proofs.Common.{[], take}
use Rattle.columns.specs.Columns.{HaveAll, Hold}
use Rattle.columns.proofs.columns.Columns.of_named.Given as goal

abbrev pub invariant-loop-index : goal.invariant-loop-index
invariant-loop-index l = record {
  none : Hold [] l.columns;
  named : HaveAll (take l.index-index l.named) l.columns;
}
