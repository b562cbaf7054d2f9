use Rattle.groups.proofs.PoolLemmas.{StandsFor}
use Rattle.groups.proofs.pool_tries.tries_of.Given as goal

abbrev pub invariant-loop-set : goal.invariant-loop-set
invariant-loop-set g l = StandsFor g.H.KeyHash-2.hash_of l.aggregations l.pool.items l.sets l.set-index l.tries.items
