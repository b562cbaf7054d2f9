use Rattle.std.proofs.Common.{◌≡◌, take}
use Rattle.groups.proofs.rising.lent_groups.Given as goal
use Rattle.trie.specs.Holding.{lent}

abbrev pub invariant-loop-group : goal.invariant-loop-group
invariant-loop-group g l = lent l.all.items ≡ take l.group-index l.groups
