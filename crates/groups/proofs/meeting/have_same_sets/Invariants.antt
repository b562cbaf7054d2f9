use Rattle.groups.proofs.MeetingLemmas.{SameTo}
use Rattle.groups.proofs.meeting.have_same_sets.Given as goal

abbrev pub invariant-loop-at : goal.invariant-loop-at
invariant-loop-at g l = SameTo l.at l.sources l.others
