use Rattle.std.proofs.Common.{◌++◌, ◌∙◌, ap, append-nil, map, sym}
use Rattle.std.proofs.lemmas.List.{at_drop_all}
use Rattle.query.specs.ElementViews.{element_tree}
use Rattle.query.specs.Marks.{marks}
use Rattle.query.specs.Sets.{sets_of, sets_of_each}
use Rattle.query.specs.Trees.{elements_of}
use Rattle.query.proofs.MarksLemmas.{each_step}
use Rattle.query.proofs.sets.+element_sets.Goals as goal

pub loop-inner-preserved : goal.loop-inner-preserved
loop-inner-preserved t c =
    each_step c.args.columns.now c.deref-inner-items.result.now c.loop-inner.inner-index c.inner-item.result (map (marks c.args.columns.now) (sets_of c.args.element.now)) c.loop-inner.sets.items
    c.in_ok-more-in-Sets.more.items c.append.new.self.items c.loop-inner-test.true c.inner-item.is c.loop-inner.invariant c.in_ok-more-in-Sets.ensures c.in_ok-append-in-Sets.ensures.items

pub loop-inner-init : goal.loop-inner-init
loop-inner-init t c =
    ap (λ e. map (marks c.args.columns.now) (sets_of e)) (sym c.element.view_is ∙ ap element_tree c.in-Sets.is)
    ∙ ap (λ es. map (marks c.args.columns.now) (sets_of_each (elements_of es))) (sym c.deref-inner-items.ensures.value)
    ∙ ap (λ l. l ++ map (marks c.args.columns.now) (sets_of_each (elements_of c.deref-inner-items.result.now))) (sym c.new-sets.ensures.items)

pub returns-after-loop-inner : goal.returns-after-loop-inner
returns-after-loop-inner t c =
    sym (c.loop-inner.invariant
    ∙ ap (λ l. c.loop-inner.sets.items ++ l) (at_drop_all (λ es. map (marks c.args.columns.now) (sets_of_each (elements_of es))) c.deref-inner-items.result.now c.loop-inner.inner-index c.loop-inner-test.false)
    ∙ append-nil c.loop-inner.sets.items)
