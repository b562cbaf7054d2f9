use Rattle.std.proofs.Common.{◌≡◌, [], ◌-◌, map}
use Rattle.std.specs.Prelude.{vec_capacity, vec_len}
use Rattle.std.specs.List.{range_with_len}
use Rattle.crew.specs.Law.{fresh}
use Rattle.crew.specs.Seats.{new_seat}
use Rattle.crew.proofs.deal.Deal.new.Given as goal

abbrev pub invariant-loop-number : goal.invariant-loop-number
invariant-loop-number l = record {
  knows : l.keeper.me ≡ (fresh l.number (l.seats - l.number), []);
  here : l.keeper.table_id ≡ l.table.shared.table_id;
  made : l.all.items ≡ map (new_seat (record { table = l.table.shared.table_id; pieces = l.pieces; seats = l.seats })) (range_with_len 0 l.number);
  count : vec_len l.all ≡ l.number;
  room : vec_capacity l.all ≡ l.seats;
}
