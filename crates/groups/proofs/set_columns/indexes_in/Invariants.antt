use Rattle.std.proofs.Common.{take}
use Rattle.groups.specs.Coarsening.{AreIndexes}
use Rattle.groups.proofs.set_columns.indexes_in.Given as goal

abbrev pub invariant-loop-column : goal.invariant-loop-column
invariant-loop-column l = AreIndexes l.finer (take l.column-index l.set) l.indexes.items
