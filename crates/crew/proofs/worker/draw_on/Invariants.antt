use Rattle.std.proofs.Common.{◌≡◌, ◌-◌, true, length}
use Rattle.crew.specs.Seats.{IsSeatOf, is_finished}
use Rattle.crew.proofs.worker.draw_on.Given as goal

abbrev pub invariant-loop : goal.invariant-loop
invariant-loop l = record {
  ours : IsSeatOf l.deal l.seat;
  same : l.seat.number ≡ l.initial.seat.number;
  stays : is_finished l.initial.seat ≡ true → l.seat ≡ l.initial.seat;
}

abbrev pub decreases-loop : goal.decreases-loop
decreases-loop l = l.deal.pieces - length l.seat.seen
