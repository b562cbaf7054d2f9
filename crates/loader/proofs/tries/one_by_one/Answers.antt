use Rattle.std.proofs.Common.{ap}
use Rattle.std.specs.List.{flat_map}
use Rattle.std.specs.Vec.Iter.{into_iter_items}
use Rattle.loader.specs.Shares.{all_in}
use Rattle.loader.proofs.TriesLemmas.{gathers_more}
use Rattle.loader.proofs.tries.one_by_one.Goals as goal

pub loop-run-preserved : goal.loop-run-preserved
loop-run-preserved g c =
    gathers_more c.later_puts_lie_over.ensures.stands (flat_map (λ run. all_in run.shares.items) c.args.runs.items) c.loop-run.all c.in_ok-more.more c.in_ok-all.all
    (flat_map (λ run. all_in run.shares.items) (into_iter_items c.loop-run.run-iterator)) (all_in c.in-Some.run'.shares.items) (flat_map (λ run. all_in run.shares.items) (into_iter_items c.next.new.self))
    c.loop-run.invariant (ap (flat_map (λ run. all_in run.shares.items)) c.in-Some.ensures.steps.0) c.in_ok-more.ensures c.in_ok-all.ensures
