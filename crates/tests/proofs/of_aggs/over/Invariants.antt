use Rattle.std.proofs.Common.{◌≡◌, take}
use Rattle.aggs.specs.Accs.{acc_of}
use Rattle.tests.proofs.of_aggs.over.Given as goal

abbrev pub invariant-loop-i : goal.invariant-loop-i
invariant-loop-i g l = l.acc ≡ acc_of l.kind (take l.i l.cells)
