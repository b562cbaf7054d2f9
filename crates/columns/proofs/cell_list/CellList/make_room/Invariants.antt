use Rattle.std.proofs.Common.{◌≡◌}
use Rattle.columns.proofs.cell_list.CellList.make_room.Given as goal

abbrev pub invariant-loop-index : goal.invariant-loop-index
invariant-loop-index l = l.self ≡ l.fn.self
