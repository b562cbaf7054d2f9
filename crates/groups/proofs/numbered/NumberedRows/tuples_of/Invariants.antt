use Rattle.std.proofs.Common.{◌≡◌, take}
use Rattle.groups.specs.Parting.{parted_tuples}
use Rattle.groups.proofs.numbered.NumberedRows.tuples_of.Given as goal

abbrev pub invariant-loop-part : goal.invariant-loop-part
invariant-loop-part l = l.tuples.items ≡ parted_tuples l.self.tuples.items l.column.cells (take l.part-index l.parts)
