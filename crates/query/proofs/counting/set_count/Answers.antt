use Rattle.std.proofs.Common.{◌∙◌, ap, arith, drop, length, sym}
use Rattle.query.specs.Sets.{counted, grouping_sets}
use Rattle.query.proofs.CountsLemmas.{count_step, drop_back}
use Rattle.query.proofs.counting.set_count.Goals as goal

pub loop-left-preserved : goal.loop-left-preserved
loop-left-preserved c =
    let e = c.index-elements-left.result in
    let step = count_step e (drop c.loop-left.left c.args.elements.now) c.loop-left.total c.element_count.result c.loop-left.invariant.counted c.element_count.ensures in
    let back = drop_back c.args.elements.now c.loop-left.left e c.loop-left-test.true c.loop-left.invariant.within c.index-elements-left.is in
    record {
      within = omega arith;
      few = omega (arith, c.min-total.ensures);
      counted = c.min-total.ensures ∙ step ∙ ap (λ v. counted (length (grouping_sets v))) (sym back);
    }
