use Rattle.std.proofs.Common.{arith}
use Rattle.query.proofs.MarksLemmas.{grouping_step}
use Rattle.query.proofs.sets.grouping_marks.Goals as goal

pub loop-left-preserved : goal.loop-left-preserved
loop-left-preserved c =
    record {
      within = omega arith;
      made =
          grouping_step c.args.columns.now c.args.elements.now c.loop-left.left c.index-elements-left.result c.loop-left-test.true c.loop-left.invariant.within c.index-elements-left.is
          c.loop-left.sets.items c.in_ok-sets-2.sets.items c.in_ok-firsts.firsts.items c.as_slice.result.now c.as_slice-in-loop-left.result.now
          c.loop-left.invariant.made c.in_ok-firsts.ensures c.as_slice.ensures.value c.as_slice-in-loop-left.ensures.value c.in_ok-sets-2.ensures;
    }
