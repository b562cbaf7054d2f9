use Rattle.std.proofs.Common.{◌∙◌, ap, sym}
use Rattle.query.specs.PredicateViews.{predicate_tree}
use Rattle.query.specs.Truth.{not_truth, truth}
use Rattle.query.proofs.ChainsLemmas.{and_joins, and_starts, or_joins, or_starts, truth_ends, truth_more}
use Rattle.query.proofs.truth.Predicate+usize.+truth_over.Goals as goal

pub loop-predicate-init : goal.loop-predicate-init
loop-predicate-init g t c =
    or_starts (g.S.Values.totals c.args.values.now) c.args.self.now c.self.inside.form c.in-Or.predicates c.deref-predicate-items.result.now
    c.self.view_is c.deref-predicate-items.ensures.value c.in-Or.is

pub loop-predicate-preserved : goal.loop-predicate-preserved
loop-predicate-preserved g t c =
    truth_more (or_joins (g.S.Values.totals c.args.values.now)) (truth c.args.self.now (g.S.Values.totals c.args.values.now)) c.deref-predicate-items.result.now c.loop-predicate.predicate-index c.loop-predicate.any c.loop-predicate.invariant
    c.loop-predicate-test.true c.predicate-item.result c.predicate-item.is c.truth_over.result c.or-any.result c.truth_over.ensures c.or-any.ensures

pub returns-after-loop-predicate : goal.returns-after-loop-predicate
returns-after-loop-predicate g t c =
    truth_ends (or_joins (g.S.Values.totals c.args.values.now)) (truth c.args.self.now (g.S.Values.totals c.args.values.now)) c.deref-predicate-items.result.now c.loop-predicate.predicate-index c.loop-predicate.any c.loop-predicate.invariant c.loop-predicate-test.false

pub loop-predicate-2-init : goal.loop-predicate-2-init
loop-predicate-2-init g t c =
    and_starts (g.S.Values.totals c.args.values.now) c.args.self.now c.self.inside.form c.in-And.predicates c.deref-predicate-items-in-And.result.now
    c.self.view_is c.deref-predicate-items-in-And.ensures.value c.in-And.is

pub loop-predicate-2-preserved : goal.loop-predicate-2-preserved
loop-predicate-2-preserved g t c =
    truth_more (and_joins (g.S.Values.totals c.args.values.now)) (truth c.args.self.now (g.S.Values.totals c.args.values.now)) c.deref-predicate-items-in-And.result.now c.loop-predicate-2.predicate-index c.loop-predicate-2.all c.loop-predicate-2.invariant
    c.loop-predicate-2-test.true c.predicate-item-in-loop-predicate-2.result c.predicate-item-in-loop-predicate-2.is c.truth_over-in-loop-predicate-2.result c.and-all.result c.truth_over-in-loop-predicate-2.ensures c.and-all.ensures

pub returns-after-loop-predicate-2 : goal.returns-after-loop-predicate-2
returns-after-loop-predicate-2 g t c =
    truth_ends (and_joins (g.S.Values.totals c.args.values.now)) (truth c.args.self.now (g.S.Values.totals c.args.values.now)) c.deref-predicate-items-in-And.result.now c.loop-predicate-2.predicate-index c.loop-predicate-2.all c.loop-predicate-2.invariant c.loop-predicate-2-test.false

pub returns-in-Not : goal.returns-in-Not
returns-in-Not g t c =
    c.negated.ensures
    ∙ ap not_truth (c.truth_over-in-Not.ensures ∙ ap (λ p. truth p (g.S.Values.totals c.args.values.now)) c.deref.ensures)
    ∙ ap (λ p. truth p (g.S.Values.totals c.args.values.now)) (sym (ap predicate_tree c.in-Not.is) ∙ c.self.view_is)
