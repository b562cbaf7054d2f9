use Rattle.std.specs.List.{AllByRecursion}
use Rattle.std.specs.Vec.Iter.{into_iter_items}
use Rattle.groups.specs.Folds.{MayTakeOthers}
use Rattle.groups.proofs.MeetingLemmas.{GoesOn}
use Rattle.groups.proofs.meeting.each_with_others.Given as goal

abbrev pub invariant-loop-source : goal.invariant-loop-source
invariant-loop-source g l = record {
  goes : GoesOn l.others l.fn.sources.items l.joined.items (into_iter_items l.source-iterator);
  left : AllByRecursion (MayTakeOthers l.others) (into_iter_items l.source-iterator);
}
