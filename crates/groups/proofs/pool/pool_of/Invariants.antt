use Rattle.groups.proofs.PoolLemmas.{GrownTo}
use Rattle.groups.proofs.pool.pool_of.Given as goal

abbrev pub invariant-loop-columns : goal.invariant-loop-columns
invariant-loop-columns g l = GrownTo l.sets l.columns l.fn.sources.items l.pool.items

abbrev pub decreases-loop-columns : goal.decreases-loop-columns
decreases-loop-columns g l = l.columns
