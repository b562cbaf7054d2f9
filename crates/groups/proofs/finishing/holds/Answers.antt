use Rattle.std.proofs.Common.{length, ap, sym, ◌∙◌}
use Rattle.groups.specs.Groups.{is_true}
use Rattle.groups.proofs.FinishLemmas.{having_holds, not_true}
use Rattle.groups.proofs.finishing.holds.Goals as goal

pub returns-in-True : goal.returns-in-True
returns-in-True g c =
    let plan = c.args.plan.now in
    sym (ap is_true c.in-True.is)
    ∙ having_holds c.args.set.now c.args.tuple.now plan.having c.in-Some.predicate.now (length plan.headings) plan.items c.shown_items.result.now c.asked_items.result.now c.args.accumulators.now
    c.behind-left.result.now c.clear.new.self.items c.as_slice.result.now _ c.in-Some.ensures c.shown_items.ensures.items c.asked_items.ensures.items c.behind-left.ensures c.clear.ensures.items
    (c.as_slice.ensures.value ∙ c.in_ok-add_values.ensures) c.truth_of.ensures

pub returns-in_default-matches : goal.returns-in_default-matches
returns-in_default-matches g c =
    let plan = c.args.plan.now in
    not_true c.truth_of.result c.in_default-matches.not-True
    ∙ having_holds c.args.set.now c.args.tuple.now plan.having c.in-Some.predicate.now (length plan.headings) plan.items c.shown_items.result.now c.asked_items.result.now c.args.accumulators.now
    c.behind-left.result.now c.clear.new.self.items c.as_slice.result.now _ c.in-Some.ensures c.shown_items.ensures.items c.asked_items.ensures.items c.behind-left.ensures c.clear.ensures.items
    (c.as_slice.ensures.value ∙ c.in_ok-add_values.ensures) c.truth_of.ensures
