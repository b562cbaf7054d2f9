use Rattle.std.proofs.Common.{arith, refl}
use Rattle.groups.proofs.PoolLemmas.{finer_at, grown_counted, grown_finer}
use Rattle.groups.proofs.PoolRowsLemmas.{rows_of_all, rows_of_next, rows_of_none}
use Rattle.groups.proofs.pool_rows.rows_of_sources.Goals as goal

pub pool_of-requires-clause-can : goal.pool_of-requires-clause-can
pool_of-requires-clause-can g c = record { aggregations = c.args.aggregations.now; counted = c.requires.can }

pub pool_of-requires-clause-finer : goal.pool_of-requires-clause-finer
pool_of-requires-clause-finer g c = rw c.sets-sets.ensures c.requires.finer

pub loop-set-init : goal.loop-set-init
loop-set-init g c = rw c.new-rows.ensures.items (rows_of_none c.args.plan.now c.args.aggregations.now c.in_ok-pool.pool.items)

pub add_rows_by-requires-clause-can : goal.add_rows_by-requires-clause-can
add_rows_by-requires-clause-can g c =
    rw c.as_slice.ensures.value (grown_counted c.args.aggregations.now c.args.sources.items c.in_ok-pool.pool.items c.in_ok-pool.ensures.grows c.requires.can)

pub add_rows_by-requires-clause-finer : goal.add_rows_by-requires-clause-finer
add_rows_by-requires-clause-finer g c =
    rw c.as_slice.ensures.value
    (finer_at c.in_ok-pool.pool.items c.args.plan.now.sets c.sets-sets.result.now c.loop-set.set-index c.set-item.result c.set-item.result
    (grown_finer c.args.sources.items c.in_ok-pool.pool.items c.args.plan.now.sets c.in_ok-pool.ensures.grows c.requires.finer) c.sets-sets.ensures
    c.loop-set-test.true c.set-item.is refl)

pub loop-set-preserved : goal.loop-set-preserved
loop-set-preserved g c =
    rows_of_next c.args.plan.now c.args.aggregations.now c.in_ok-pool.pool.items c.sets-sets.result.now c.loop-set.set-index c.set-item.result c.loop-set.rows.items
    c.add_rows_by.new.rows.items c.sets-sets.ensures c.loop-set-test.true c.set-item.is c.loop-set.invariant
    (λ kept pooled. c.in_ok-add_rows_by.ensures kept (rw c.as_slice.ensures.value pooled))

pub returns : goal.returns
returns g c = λ kept pooled.
    rows_of_all c.args.plan.now c.args.aggregations.now c.in_ok-pool.pool.items c.sets-sets.result.now c.loop-set.set-index c.loop-set.rows.items c.sets-sets.ensures (omega arith)
    c.loop-set.invariant kept (c.in_ok-pool.ensures.grows.covers c.args.aggregations.now kept pooled)
