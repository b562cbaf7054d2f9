use Rattle.std.proofs.Common.{take}
use Rattle.groups.specs.Differing.{AreListed, lists_of}
use Rattle.groups.specs.Parting.{codes_at}
use Rattle.groups.proofs.differing.codes_by_group.Given as goal

abbrev pub invariant-loop-at : goal.invariant-loop-at
invariant-loop-at l = AreListed l.count (take l.at l.numbers) (take l.at (codes_at l.codes l.rows)) (lists_of l.lists.items)
