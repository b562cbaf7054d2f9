use Rattle.std.proofs.Common.{◌≡◌, ◌+◌, length}
use Rattle.std.specs.Prelude.{IfErr, IfOk, vec_capacity}
use Rattle.std.specs.Vec.Iter.{into_iter_items}
use Rattle.crew.specs.Seats.{IsSeatOf, new_seat}
use Rattle.crew.specs.Works.{AllNumbered}
use Rattle.crew.proofs.running.fn.run_all.scope.Given as goal

abbrev pub invariant-loop-seat : goal.invariant-loop-seat
invariant-loop-seat g l = record {
  many : length l.begun.items + length (into_iter_items l.seat-iterator) ≡ l.start.deal.now.seats;
  left : AllNumbered (λ number seat. seat ≡ new_seat l.start.deal.now number) (length l.begun.items) (into_iter_items l.seat-iterator);
  started : AllNumbered (λ number one. IfOk one (λ handle. (handle.promise.deal.now ≡ l.start.deal.now) × (handle.promise.task.now ≡ l.start.task.now) × (handle.promise.number ≡ number))) 0 l.begun.items;
  refused : AllNumbered (λ number one. IfErr one (λ seat. IsSeatOf l.start.deal.now seat × (seat.number ≡ number))) 0 l.begun.items;
  room : l.start.deal.now.seats ≡ vec_capacity l.begun;
}
