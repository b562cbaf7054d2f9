use Rattle.std.proofs.Common.{arith, subst}
use Rattle.std.proofs.lemmas.List.{nil_from_length}
use Rattle.std.specs.List.{AllByRecursion}
use Rattle.std.specs.Vec.Iter.{into_iter_items}
use Rattle.groups.specs.Folds.{MayTakeOthers}
use Rattle.groups.proofs.MeetingLemmas.{goes_first, goes_last, goes_more}
use Rattle.groups.proofs.meeting.each_with_others.Goals as goal

pub loop-source-init : goal.loop-source-init
loop-source-init g c =
    let all = c.into_iter-source-iterator.ensures.into_iter_gives.0 in
    record {
      goes = rw all (goes_first c.args.others.now c.args.sources.items c.in_ok-joined.joined.items c.in_ok-joined.ensures.items);
      left = rw all c.requires;
    }

pub loop-source-preserved : goal.loop-source-preserved
loop-source-preserved g c =
    let held = c.loop-source.invariant in
    let left = subst (AllByRecursion (MayTakeOthers c.args.others.now)) c.in-Some.ensures.steps.0 held.left in
    record {
      goes = goes_more c.args.others.now c.args.sources.items c.loop-source.joined.items c.push.new.self.items (into_iter_items c.loop-source.source-iterator)
          (into_iter_items c.next.new.self) c.in-Some.source c.in_ok-with_others.field-0 held.goes c.in-Some.ensures.steps.0 c.in_ok-push.ensures.items c.in_ok-with_others.ensures;
      left = left.1;
    }

pub returns : goal.returns
returns g c =
    let iterator = c.loop-source.source-iterator in
    goes_last c.args.others.now c.args.sources.items c.loop-source.joined.items (into_iter_items iterator)
    (nil_from_length (into_iter_items iterator) (omega (arith, iterator.rest.ok, c.in-None.ensures.steps.0))) c.loop-source.invariant.goes
