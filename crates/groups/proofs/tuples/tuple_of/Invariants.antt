use Rattle.std.proofs.Common.{◌≡◌, take}
use Rattle.groups.specs.Bags.{picked}
use Rattle.groups.proofs.tuples.tuple_of.Given as goal

abbrev pub invariant-loop-index : goal.invariant-loop-index
invariant-loop-index l = l.tuple.items ≡ picked (take l.index-index l.indexes) l.cells
