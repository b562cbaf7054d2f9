use Rattle.std.specs.Vec.Iter.{into_iter_items}
use Rattle.groups.proofs.ToldLemmas.{ToldSoFar}
use Rattle.groups.proofs.told.told_groups.Given as goal
use Rattle.trie.specs.Holding.{lent}

abbrev pub invariant-loop-group : goal.invariant-loop-group
invariant-loop-group g l = ToldSoFar (lent (into_iter_items l.fn.groups)) (lent (into_iter_items l.group-iterator)) l.told.items
