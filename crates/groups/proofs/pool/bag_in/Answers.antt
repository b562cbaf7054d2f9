use Rattle.std.proofs.Common.{sym, subst, ◌∙◌}
use Rattle.groups.specs.Bags.{Covers}
use Rattle.groups.proofs.PoolLemmas.{pool_at, same_set}
use Rattle.groups.proofs.pool.bag_in.Goals as goal

pub returns-then-eq-clause-covers : goal.returns-then-eq-clause-covers
returns-then-eq-clause-covers g c = λ aggregations rows now.
    subst (λ s. Covers aggregations s rows c.set_bag-item.result.bag)
    (sym c.as_slice.ensures.value ∙ same_set c.as_slice.result.now c.args.set.now (sym c.eq.ensures ∙ c.if-eq.true))
    (pool_at aggregations rows c.args.pool.now c.loop-set_bag.set_bag-index c.set_bag-item.result now c.loop-set_bag-test.true c.set_bag-item.is)
