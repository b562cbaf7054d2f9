use Rattle.std.proofs.Common.{arith}
use Rattle.groups.proofs.MeetingLemmas.{same_more}
use Rattle.groups.proofs.TuplesLemmas.{was_true}
use Rattle.groups.proofs.meeting.have_same_sets.Goals as goal

pub loop-at-preserved : goal.loop-at-preserved
loop-at-preserved g c =
    same_more c.loop-at.at c.args.sources.now c.args.others.now c.index-sources-at.result c.index-others-at.result c.as_slice.result.now c.as_slice-in-loop-at.result.now
    (omega (arith, c.if-sources-others.false)) (omega (arith, c.loop-at-test.true)) c.as_slice.ensures.value c.as_slice-in-loop-at.ensures.value (was_true _ c.if-ne.ensures) c.loop-at.invariant
