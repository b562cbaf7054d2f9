use Rattle.std.specs.Vec.Iter.{into_iter_items}
use Rattle.groups.proofs.JoinLemmas.{FitSoFar}
use Rattle.groups.proofs.joining.fit.Given as goal
use Rattle.trie.specs.Holding.{lent}

abbrev pub invariant-loop-group : goal.invariant-loop-group
invariant-loop-group g l = FitSoFar g.H.KeyHash-2.hash_of l.first l.second (lent (into_iter_items l.group-iterator))
