use Rattle.std.proofs.Common.{◌≡◌, ◌+◌, ◌≤◌, length}
use Rattle.std.specs.Prelude.{IfErr, IfOk, vec_capacity, vec_len}
use Rattle.std.specs.Vec.Iter.{into_iter_items, into_iter_len}
use Rattle.crew.specs.Seats.{IsSeatOf}
use Rattle.crew.specs.Works.{AllNumbered}
use Rattle.crew.proofs.BackLemmas.{Reached}
use Rattle.crew.proofs.running.Start.joined.Given as goal

abbrev pub invariant-loop-one : goal.invariant-loop-one
invariant-loop-one g l = record {
  reached : Reached l.self.deal.now (g.K.Task.makes l.self.task.now) l.seats.items l.given.items;
  many : length l.seats.items + length (into_iter_items l.one-iterator) ≡ l.self.deal.now.seats;
  started : AllNumbered (λ number one. IfOk one (λ handle. (handle.promise.deal.now ≡ l.self.deal.now) × (handle.promise.task.now ≡ l.self.task.now) × (handle.promise.number ≡ number))) (length l.seats.items) (into_iter_items l.one-iterator);
  refused : AllNumbered (λ number one. IfErr one (λ seat. IsSeatOf l.self.deal.now seat × (seat.number ≡ number))) (length l.seats.items) (into_iter_items l.one-iterator);
  seats_room : vec_len l.seats + into_iter_len l.one-iterator ≤ vec_capacity l.seats;
  given_room : vec_len l.given + into_iter_len l.one-iterator ≤ vec_capacity l.given;
}
