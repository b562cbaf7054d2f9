use Rattle.std.proofs.Common.{◌≡◌, take}
use Rattle.groups.specs.Keeping.{chosen}
use Rattle.groups.proofs.keeping.chosen.Given as goal

abbrev pub invariant-loop-at : goal.invariant-loop-at
invariant-loop-at l = l.kept.items ≡ chosen l.marks (take l.at l.numbers) (take l.at l.indexes)
