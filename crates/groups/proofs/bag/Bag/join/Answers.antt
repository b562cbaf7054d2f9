use Rattle.std.proofs.Common.{arith, ◌∙◌}
use Rattle.std.proofs.lemmas.List.{nil_from_length}
use Rattle.std.specs.Vec.Iter.{into_iter_items}
use Rattle.groups.proofs.BagJoinLemmas.{go_first, go_fits, go_last, go_next}
use Rattle.groups.proofs.bag.Bag.join.Goals as goal

pub loop-tuple-init : goal.loop-tuple-init
loop-tuple-init g c =
    go_first c.args.self c.args.more c.in_ok-all.all (into_iter_items c.into_iter-tuple-iterator.result) c.in_ok-all.ensures
    (c.into_iter-tuple-iterator.ensures.into_iter_gives.0 ∙ c.more.view_is)

pub put-requires : goal.put-requires
put-requires g c =
    go_fits c.args.self c.args.more c.loop-tuple.all (into_iter_items c.loop-tuple.tuple-iterator) (into_iter_items c.next.new.self) (c.in-Some.tuple, c.in-Some.accumulators)
    c.in-Some.ensures.steps.0 c.loop-tuple.invariant c.requires

pub loop-tuple-preserved : goal.loop-tuple-preserved
loop-tuple-preserved g c =
    go_next c.args.self c.args.more c.loop-tuple.all (into_iter_items c.loop-tuple.tuple-iterator) (into_iter_items c.next.new.self) (c.in-Some.tuple, c.in-Some.accumulators)
    c.in-Some.ensures.steps.0 c.loop-tuple.invariant c.put.new.self c.in_ok-put.ensures

pub returns : goal.returns
returns g c =
    let iterator = c.loop-tuple.tuple-iterator in
    go_last c.args.self c.args.more c.loop-tuple.all (into_iter_items iterator)
    (nil_from_length (into_iter_items iterator) (omega (arith, iterator.rest.ok, c.in-None.ensures.steps.0))) c.loop-tuple.invariant
