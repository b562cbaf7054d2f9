use Rattle.std.proofs.Common.{List, ap, arith, length}
use Rattle.groups.proofs.CoarseningLemmas.{coarsening_all, coarsening_fit, coarsening_more}
use Rattle.groups.proofs.coarsening.coarsened.Goals as goal

pub take_group-requires : goal.take_group-requires
take_group-requires g c =
    coarsening_fit c.args.indexes.now c.args.finer.now c.groups-group-items.result.now c.groups-group-items.ensures.all c.loop-group.group-index c.group-item.result
    c.loop-group-test.true c.group-item.is c.loop-group.bag c.requires c.loop-group.invariant

pub loop-group-preserved : goal.loop-group-preserved
loop-group-preserved g c =
    coarsening_more c.args.indexes.now c.args.finer.now c.groups-group-items.result.now c.groups-group-items.ensures.all c.loop-group.group-index c.group-item.result
    c.loop-group-test.true c.group-item.is c.loop-group.bag c.take_group.new.self c.loop-group.invariant c.in_ok-take_group.ensures

pub returns : goal.returns
returns g c =
    coarsening_all c.args.indexes.now c.args.finer.now c.loop-group.bag c.loop-group.group-index (omega (arith, ap (λ (l : List _). length l) c.groups-group-items.ensures.all))
    c.loop-group.invariant
