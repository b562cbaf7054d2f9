use Rattle.std.proofs.Common.{◌≡◌}
use Rattle.board.proofs.boxes.wait_for_side.Given as goal

abbrev pub invariant-loop : goal.invariant-loop
invariant-loop g l = (l.seat.table_id ≡ l.fn.seat.table_id) × (l.seat.me ≡ l.fn.seat.me)
