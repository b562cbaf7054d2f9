use Rattle.std.proofs.Common.{take}
use Rattle.std.specs.List.{AllZip}
use Rattle.groups.proofs.ToldLemmas.{TellsLike}
use Rattle.groups.proofs.partial.Partial.told.Given as goal

abbrev pub invariant-loop-groups : goal.invariant-loop-groups
invariant-loop-groups g l = AllZip (TellsLike g.H.KeyHash-2.hash_of) (take l.groups-index l.groups-items) l.sets.items
