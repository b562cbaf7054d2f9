use Rattle.std.proofs.Common.{take}
use Rattle.groups.specs.Differing.{AreListed, cells_of_parts, groups_of_parts, lists_of}
use Rattle.groups.proofs.differing.cells_by_group.Given as goal

abbrev pub invariant-loop-part : goal.invariant-loop-part
invariant-loop-part l = AreListed l.count (take l.part-index (groups_of_parts l.parts)) (take l.part-index (cells_of_parts l.column.cells l.parts)) (lists_of l.lists.items)
