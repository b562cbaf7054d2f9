use Rattle.std.proofs.Common.{◌≡◌, subst, sym, true}
use Rattle.groups.specs.Pools.{has_all}
use Rattle.groups.specs.declared.pool.SetBag.{SetBag}
use Rattle.groups.proofs.PoolLemmas.{pool_at}
use Rattle.groups.proofs.pool.bag_from.Goals as goal

pub bounds-pool-index : goal.bounds-pool-index
bounds-pool-index g c = c.fewest-index.ensures.within

pub coarser_bag-requires-clause-can : goal.coarser_bag-requires-clause-can
coarser_bag-requires-clause-can g c =
    let can = c.requires.can in
    record {
      aggregations = can.aggregations;
      counted = record {
        rows = can.counted.rows;
        covers = pool_at can.aggregations can.counted.rows c.args.pool.now c.fewest-index.result c.index-pool-index.result can.counted.covers
            c.fewest-index.ensures.within c.index-pool-index.is;
        few = can.counted.few;
      };
    }

pub coarser_bag-requires-clause-finer : goal.coarser_bag-requires-clause-finer
coarser_bag-requires-clause-finer g c =
    subst (λ (f : SetBag g.row.H.Denot). has_all f.set.items c.args.set.now ≡ true) (sym c.index-pool-index.is) (c.fewest-index.ensures.finer c.index-pool-index.result)

pub returns : goal.returns
returns g c = λ aggregations rows now.
    c.coarser_bag.ensures aggregations rows
    (pool_at aggregations rows c.args.pool.now c.fewest-index.result c.index-pool-index.result now c.fewest-index.ensures.within c.index-pool-index.is)
