use Rattle.std.proofs.Common.{take}
use Rattle.groups.specs.Told.{Keep}
use Rattle.groups.proofs.accumulators.Accumulators.kept.Given as goal

abbrev pub invariant-loop-held : goal.invariant-loop-held
invariant-loop-held g l = Keep (take l.held-index l.held-items) l.kepts.items
