use Rattle.std.proofs.Common.{ap}
use Rattle.std.specs.List.{flat_map}
use Rattle.std.specs.Vec.Iter.{into_iter_items}
use Rattle.loader.specs.Shares.{all_in}
use Rattle.loader.proofs.TriesLemmas.{gathers_more}
use Rattle.loader.proofs.tries.joined.Goals as goal

pub loop-thread-preserved : goal.loop-thread-preserved
loop-thread-preserved g c =
    gathers_more c.later_puts_lie_over.ensures.stands (flat_map (λ thread. all_in thread.promise.shares.value.items) c.args.begun.items) c.loop-thread.all c.in_ok-more.more c.in_ok-all.all
    (flat_map (λ thread. all_in thread.promise.shares.value.items) (into_iter_items c.loop-thread.thread-iterator)) (all_in c.in-Some.thread.promise.shares.value.items)
    (flat_map (λ thread. all_in thread.promise.shares.value.items) (into_iter_items c.next.new.self))
    c.loop-thread.invariant (ap (flat_map (λ thread. all_in thread.promise.shares.value.items)) c.in-Some.ensures.steps.0) c.in_ok-more.ensures c.in_ok-all.ensures
