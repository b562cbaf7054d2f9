use Rattle.std.proofs.Common.{◌≡◌, take}
use Rattle.groups.specs.Bags.{picked}
use Rattle.groups.proofs.tuples.is_tuple_of.Given as goal

abbrev pub invariant-loop-i : goal.invariant-loop-i
invariant-loop-i l = take l.i l.tuple ≡ take l.i (picked l.indexes l.cells)
