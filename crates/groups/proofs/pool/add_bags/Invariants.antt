use Rattle.groups.proofs.PoolLemmas.{AddsTo}
use Rattle.groups.proofs.pool.add_bags.Given as goal

abbrev pub invariant-loop-set : goal.invariant-loop-set
invariant-loop-set g l = AddsTo l.sets l.columns l.set-index l.fn.pool.items l.pool.items
