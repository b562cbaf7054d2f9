use Rattle.std.proofs.Common.{take}
use Rattle.groups.specs.Tallying.{AreStepped}
use Rattle.groups.proofs.TallyingLemmas.{nulls, rows_of}
use Rattle.groups.proofs.tallying.counted.Given as goal

abbrev pub invariant-loop-number : goal.invariant-loop-number
invariant-loop-number g l = AreStepped rows_of l.count (take l.number-index l.numbers) (take l.number-index (nulls l.numbers)) l.accs.items
