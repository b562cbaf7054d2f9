use Rattle.std.proofs.Common.{arith}
use Rattle.groups.proofs.PoolLemmas.{grown_finer, grown_may, grown_more}
use Rattle.groups.proofs.pool.pool_of.Goals as goal

pub add_bags-requires-clause-can : goal.add_bags-requires-clause-can
add_bags-requires-clause-can g c = grown_may c.args.sources.items c.loop-columns.pool.items c.loop-columns.invariant.grows c.requires.can

pub add_bags-requires-clause-finer : goal.add_bags-requires-clause-finer
add_bags-requires-clause-finer g c =
    grown_finer c.args.sources.items c.loop-columns.pool.items c.args.sets.now c.loop-columns.invariant.grows c.requires.finer

pub loop-columns-preserved : goal.loop-columns-preserved
loop-columns-preserved g c =
    grown_more c.args.sets.now c.loop-columns.columns _ c.args.sources.items c.loop-columns.pool.items c.add_bags.new.pool.items (omega arith)
    c.loop-columns.invariant c.in_ok-add_bags.ensures.grows c.in_ok-add_bags.ensures.there
