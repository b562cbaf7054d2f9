-- Rows as a finite map from their keys.
use Rattle.std.specs.Prelude.{◌≡◌, List, ◌++◌, Some, map}
use Rattle.std.specs.FinMap.{FinMap, entries, from_entries, get}
use Rattle.cells.specs.CellOrder.{cell_cmp}
use Rattle.cells.specs.Fitting.{IsRowOf}
use Rattle.cells.specs.Values.{RowValue, Table}
use Rattle.cells.specs.declared.cell.Cell.{Cell}

-- a row at each key that has one
abbrev pub Rows : Type 0
Rows = FinMap cell_cmp RowValue

-- each row beside its key
abbrev pub keyed_rows : List RowValue → List (Cell × RowValue)
keyed_rows rs = map (λ r. (r.key, r)) rs

-- the row at each key; where rows of one key stand in the list, the first of them
abbrev pub table : List RowValue → Rows
table rs = from_entries (keyed_rows rs)

-- later rows laid over earlier ones: where both have a key, the later row stands
abbrev pub laid_over : Rows → Rows → Rows
laid_over later earlier = from_entries (entries later ++ entries earlier)

-- each row stands at its own key, and may stand in the table
pub record AreRowsOf (table : Table) (rows : Rows) : Type 0 where
  pub keyed : (key : Cell) (row : RowValue) → get rows key ≡ Some row → row.key ≡ key
  pub fit : (key : Cell) (row : RowValue) → get rows key ≡ Some row → IsRowOf table row
