use Rattle.std.proofs.Common.{refl, None}
use Rattle.std.proofs.lemmas.Slice.Zip.{either_empty_from_Zip}
use Rattle.groups.proofs.AccumulatorsLemmas.{joining_all, joining_may, joining_more}
use Rattle.groups.proofs.accumulators.Accumulators.join.Goals as goal

pub join-requires : goal.join-requires
join-requires g c = let step = c.in-Some.ensures.steps in joining_may c.loop-first.invariant step.0 step.1

pub loop-first-preserved : goal.loop-first-preserved
loop-first-preserved g c =
    let step = c.in-Some.ensures.steps in
    rw c.in_ok-push.ensures.items (joining_more c.loop-first.invariant step.0 step.1 c.in_ok-join.field-0 c.in_ok-join.ensures)

pub returns : goal.returns
returns g c =
    joining_all c.loop-first.invariant
    (either_empty_from_Zip c.loop-first.first-iterator c.next.new.self None refl c.in-None.ensures.steps)
