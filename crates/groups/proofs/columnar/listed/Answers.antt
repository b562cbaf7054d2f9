use Rattle.std.proofs.Common.{ap, arith, map, ◌∙◌}
use Rattle.groups.specs.Columnar.{accs_at}
use Rattle.groups.proofs.ColumnarLemmas.{listed_none, listed_one}
use Rattle.groups.proofs.columnar.listed.Goals as goal

pub loop-tuple-init : goal.loop-tuple-init
loop-tuple-init g c =
    listed_none c.args.tuples.items (map (λ accs. accs.items) c.args.tallies.now) c.in_ok-groups.groups.items c.into_iter-tuple-iterator.result.rest.items c.in_ok-groups.ensures.items
    c.into_iter-tuple-iterator.ensures.into_iter_gives.0

pub loop-tuple-preserved : goal.loop-tuple-preserved
loop-tuple-preserved g c =
    let lists = map (λ accs. accs.items) c.args.tallies.now in
    listed_one c.args.tuples.items lists c.loop-tuple.groups.items c.loop-tuple.tuple-iterator.rest.items c.loop-tuple.invariant c.in-Some.tuple c.next.new.self.rest.items
    c.in-Some.ensures.steps.0 c.in_ok-accumulators.accumulators c.push.new.self.items
    (c.in_ok-accumulators.ensures ∙ ap (λ n. accs_at n lists) (omega (arith, c.len-in-loop-tuple.ensures, c.loop-tuple.groups.ok.0))) c.in_ok-push.ensures.items
