use Rattle.std.proofs.Common.{take}
use Rattle.groups.specs.Parting.{AreParted, codes_at}
use Rattle.groups.proofs.parting.parted_as_met.Given as goal

abbrev pub invariant-loop-at : goal.invariant-loop-at
invariant-loop-at l = AreParted (take l.at l.groups) (take l.at (codes_at l.codes l.rows)) l.numbers.items l.numbering.parts.items
