use Rattle.std.proofs.Common.{◌<◌, ◌∙◌, arith, sym}
use Rattle.query.specs.Checks.{is_mixed}
use Rattle.query.specs.Trees.{predicate_size}
use Rattle.query.proofs.ChainsLemmas.{chain_ends, chain_holds, chain_not, chain_passed, chain_starts}
use Rattle.query.proofs.FallsLemmas.{falls_in_chain}
use Rattle.query.proofs.types.+is_mixed_predicate.Goals as goal

pub is_mixed_predicate-requires-in-loop-inner : goal.is_mixed_predicate-requires-in-loop-inner
is_mixed_predicate-requires-in-loop-inner g t c κs within =
    let less : predicate_size c.inner-item.result < predicate_size c.args.predicate.now =
    falls_in_chain c.args.predicate.now c.predicate.inside.form c.in-Or.inners c.deref-inner-items.result.now c.loop-inner.inner-index c.inner-item.result
    c.predicate.view_is c.deref-inner-items.ensures.value c.loop-inner-test.true c.inner-item.is c.in-Or.is in
    (omega (arith, less), within)

pub loop-inner-init : goal.loop-inner-init
loop-inner-init g t c =
    chain_starts (is_mixed (g.F.Finder.finds c.args.texts.now)) c.args.predicate.now c.predicate.inside.form c.in-Or.inners c.deref-inner-items.result.now
    c.predicate.view_is c.deref-inner-items.ensures.value c.in-Or.is

pub loop-inner-preserved : goal.loop-inner-preserved
loop-inner-preserved g t c =
    chain_passed (is_mixed (g.F.Finder.finds c.args.texts.now)) _ c.deref-inner-items.result.now c.loop-inner.inner-index c.loop-inner.invariant
    c.inner-item.result c.loop-inner-test.true c.inner-item.is (sym c.is_mixed_predicate-in-loop-inner.ensures ∙ c.if-is_mixed_predicate.false)

pub returns-then-is_mixed_predicate : goal.returns-then-is_mixed_predicate
returns-then-is_mixed_predicate g t c =
    chain_holds (is_mixed (g.F.Finder.finds c.args.texts.now)) _ c.deref-inner-items.result.now c.loop-inner.inner-index c.loop-inner.invariant
    c.inner-item.result c.loop-inner-test.true c.inner-item.is (sym c.is_mixed_predicate-in-loop-inner.ensures ∙ c.if-is_mixed_predicate.true)

pub returns-after-loop-inner : goal.returns-after-loop-inner
returns-after-loop-inner g t c =
    chain_ends (is_mixed (g.F.Finder.finds c.args.texts.now)) _ c.deref-inner-items.result.now c.loop-inner.inner-index c.loop-inner.invariant c.loop-inner-test.false

pub returns-in-Not : goal.returns-in-Not
returns-in-Not g t c =
    c.is_mixed_predicate.ensures
    ∙ chain_not (is_mixed (g.F.Finder.finds c.args.texts.now)) c.args.predicate.now c.predicate.inside.form c.in-Not.inner c.deref.result.now c.predicate.view_is c.in-Not.is c.deref.ensures
