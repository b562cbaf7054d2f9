use Rattle.std.proofs.Common.{arith}
use Rattle.query.proofs.MarksLemmas.{rollup_step}
use Rattle.query.proofs.sets.rollup.Goals as goal

pub loop-left-preserved : goal.loop-left-preserved
loop-left-preserved c =
    record {
      within = omega arith;
      made =
          rollup_step c.args.columns.now c.args.units.now c.loop-left.left c.index-units-left.result c.loop-left-test.true c.loop-left.invariant.within c.index-units-left.is
          c.loop-left.sets.items c.push.new.self.items c.in_ok-first.first c.in_ok-first.ensures c.as_slice.result.now c.in_ok-longer.longer.items c.as_slice.ensures.value c.in_ok-longer.ensures
          c.loop-left.invariant.made c.in_ok-no_marks.field-0 c.in_ok-no_marks.ensures c.in_ok-push.ensures.items;
    }
