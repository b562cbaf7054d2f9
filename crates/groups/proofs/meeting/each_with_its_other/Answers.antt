use Rattle.std.proofs.Common.{arith, subst, sym}
use Rattle.std.proofs.lemmas.List.{nil_from_length}
use Rattle.std.specs.Vec.Iter.{into_iter_items}
use Rattle.groups.proofs.MeetingLemmas.{GoesOn, beside_first, beside_join, beside_next, beside_takes, goes_first, goes_last, goes_more}
use Rattle.groups.proofs.meeting.each_with_its_other.Goals as goal

pub loop-source-init : goal.loop-source-init
loop-source-init g c =
    let others = c.args.others.items in
    let sources = c.args.sources.items in
    let joined = c.in_ok-joined.joined.items in
    let all = c.into_iter-source-iterator.ensures.into_iter_gives.0 in
    record {
      goes = subst (GoesOn others sources joined) (sym all) (goes_first others sources joined c.in_ok-joined.ensures.items);
      beside = beside_first others sources (into_iter_items c.into_iter-source-iterator.result) (into_iter_items c.into_iter-others.result) all c.into_iter-others.ensures.rest c.requires.may
          c.requires.same;
    }

pub with_other-requires : goal.with_other-requires
with_other-requires g c =
    beside_join c.args.others.items (into_iter_items c.loop-source.source-iterator) (into_iter_items c.next.new.self) (into_iter_items c.loop-source.others)
    (into_iter_items c.next-in-loop-source.new.self) c.in-Some.source c.in-Some-next.other c.in-Some.ensures.steps.0 c.in-Some-next.ensures.items c.loop-source.invariant.beside

pub loop-source-preserved : goal.loop-source-preserved
loop-source-preserved g c =
    let others = c.args.others.items in
    let held = c.loop-source.invariant in
    let old = into_iter_items c.loop-source.source-iterator in
    let left = into_iter_items c.next.new.self in
    let lasts = into_iter_items c.loop-source.others in
    let later = into_iter_items c.next-in-loop-source.new.self in
    let next = c.in-Some.ensures.steps.0 in
    let after = c.in-Some-next.ensures.items in
    record {
      goes = goes_more others c.args.sources.items c.loop-source.joined.items c.push.new.self.items old left c.in-Some.source c.in_ok-with_other.field-0 held.goes next c.in_ok-push.ensures.items
          (beside_takes others old left lasts later c.in-Some.source c.in-Some-next.other next after held.beside c.in_ok-with_other.field-0 c.in_ok-with_other.ensures.set
          c.in_ok-with_other.ensures.both);
      beside = beside_next others old left lasts later c.in-Some.source c.in-Some-next.other next after held.beside;
    }

pub returns : goal.returns
returns g c =
    let iterator = c.loop-source.source-iterator in
    goes_last c.args.others.items c.args.sources.items c.loop-source.joined.items (into_iter_items iterator)
    (nil_from_length (into_iter_items iterator) (omega (arith, iterator.rest.ok, c.in-None.ensures.steps.0))) c.loop-source.invariant.goes
