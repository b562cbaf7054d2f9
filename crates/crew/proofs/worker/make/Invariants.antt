use Rattle.std.proofs.Common.{◌≡◌, ◌-◌, length}
use Rattle.crew.specs.Seats.{IsSeatOf, drawn_by}
use Rattle.crew.proofs.worker.make.Given as goal

abbrev pub invariant-loop-place : goal.invariant-loop-place
invariant-loop-place g l = record {
  ours : IsSeatOf l.deal l.seat;
  same : l.seat.number ≡ l.initial.seat.number;
  made_of : g.K.Task.makes l.task (drawn_by l.seat) l.made;
}

abbrev pub decreases-loop-place : goal.decreases-loop-place
decreases-loop-place g l = l.deal.pieces - length l.seat.seen
