-- The order of tuples: cell by cell.
use Rattle.std.specs.Prelude.{Bool, List}
use Rattle.std.specs.Cmp.{IsEquivalence, IsTotalOrder, eq_by_cmp_equiv}
use Rattle.std.specs.Cmp.Lexicographic.{lists_total, slice_cmp}
use Rattle.std.specs.Ordering.{eq_by_cmp}
use Rattle.std.specs.declared.cmp.Ordering.{Ordering}
use Rattle.cells.specs.CellOrder.{cell_cmp, cell_cmp-total}
use Rattle.cells.specs.declared.cell.Cell.{Cell}

-- the first cell that differs decides, and a tuple stands after its own beginnings
abbrev pub tuple_cmp : List Cell → List Cell → Ordering
tuple_cmp = slice_cmp cell_cmp

-- as many cells, and none distinct from the one in its place
abbrev pub tuple_eq : List Cell → List Cell → Bool
tuple_eq = eq_by_cmp tuple_cmp

pub tuple_cmp-total : IsTotalOrder tuple_cmp
tuple_cmp-total = lists_total cell_cmp-total

pub tuple_eq-equiv : IsEquivalence tuple_eq
tuple_eq-equiv = eq_by_cmp_equiv tuple_cmp-total
