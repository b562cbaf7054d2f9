use Rattle.std.specs.Vec.Iter.{into_iter_items}
use Rattle.groups.proofs.MeetingLemmas.{AreBeside, GoesOn}
use Rattle.groups.proofs.meeting.each_with_its_other.Given as goal

abbrev pub invariant-loop-source : goal.invariant-loop-source
invariant-loop-source g l = record {
  goes : GoesOn l.fn.others.items l.fn.sources.items l.joined.items (into_iter_items l.source-iterator);
  beside : AreBeside l.fn.others.items (into_iter_items l.source-iterator) (into_iter_items l.others);
}
