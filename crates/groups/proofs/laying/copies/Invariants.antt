use Rattle.std.proofs.Common.{◌≡◌, take}
use Rattle.groups.proofs.laying.copies.Given as goal

abbrev pub invariant-loop-group : goal.invariant-loop-group
invariant-loop-group g l = l.all.items ≡ take l.group-index l.groups
