use Rattle.std.proofs.Common.{◌≡◌, ◌++◌, map, All}
use Rattle.std.specs.Vec.Iter.{into_iter_items}
use Rattle.crew.specs.Seats.{sight_of}
use Rattle.crew.proofs.deal.gathered.Given as goal

abbrev pub invariant-loop-seat : goal.invariant-loop-seat
invariant-loop-seat l = record {
  here : l.keeper.table_id ≡ l.shared.table_id;
  all : l.keeper.me.0 ++ map sight_of (into_iter_items l.seat-iterator) ≡ l.initial.keeper.me.0 ++ map sight_of (into_iter_items l.initial.seat-iterator);
  ours : All (λ s. s.table ≡ l.shared.table_id) (into_iter_items l.seat-iterator);
}
