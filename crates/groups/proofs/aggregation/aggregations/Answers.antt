use Rattle.std.proofs.Common.{sym, ap, ◌∙◌}
use Rattle.groups.specs.Accumulators.{aggregation_of}
use Rattle.groups.proofs.AccumulatorsLemmas.{no_aggregation_more, one_aggregation_more}
use Rattle.groups.proofs.aggregation.aggregations.Goals.{in-Some+in_ok-push, in_default}
use Rattle.groups.proofs.aggregation.aggregations.Goals as goal

pub loop-item-preserved : goal.loop-item-preserved
loop-item-preserved c = elim c.match-aggregation_of.branch [
  | in-Some+in_ok-push w ↦ ap (λ v. v.items) w.aggregations-is ∙ w.in_ok-push.ensures.items
      ∙ one_aggregation_more c.args.items.now c.loop-item.item-index c.item-item.result c.loop-item-test.true w.in-Some.aggregation c.loop-item.aggregations.items
      c.loop-item.invariant (ap aggregation_of (sym c.item-item.is) ∙ sym c.aggregation_of.ensures ∙ w.in-Some.is)
  | in_default w ↦ ap (λ v. v.items) w.aggregations-is
      ∙ no_aggregation_more c.args.items.now c.loop-item.item-index c.item-item.result c.loop-item-test.true c.loop-item.aggregations.items
      c.loop-item.invariant (ap aggregation_of (sym c.item-item.is) ∙ sym c.aggregation_of.ensures ∙ w.in_default.is)
]
