use Rattle.std.proofs.Common.{◌≡◌, map, take}
use Rattle.query.specs.Marks.{joined}
use Rattle.query.proofs.sets.joined_each.Given as goal

abbrev pub invariant-loop-other : goal.invariant-loop-other
invariant-loop-other l = l.sets.items ≡ map (joined l.first) (take l.other-index l.others)
