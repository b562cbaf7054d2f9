-- Cells that fit their columns, and rows that fit a table.
use Rattle.std.specs.Prelude.{◌≡◌, ◌≢◌, ◌≤◌, List, [], ◌∷◌, Some, ⊤}
use Rattle.std.specs.Int.RustNames.{unsigned_abs}
use Rattle.std.specs.List.{slice_get}
use Rattle.cells.specs.Limits.{integer_limit}
use Rattle.cells.specs.Values.{RowValue, Table}
use Rattle.cells.specs.declared.cell.Cell.{Cell}
use Rattle.cells.specs.declared.cell.Cell.TheVariants as cell
use Rattle.cells.specs.declared.schema.Column.{Column}
use Rattle.cells.specs.declared.schema.ColumnType.{ColumnType}
use Rattle.cells.specs.declared.schema.ColumnType.TheVariants as column

-- an integer has 64 bits
abbrev pub IsStored : Cell → Type 0
IsStored cell.Null = ⊤
IsStored (cell.Int n) = unsigned_abs n ≤ integer_limit
IsStored (cell.Text t) = ⊤

-- the cell may stand in a column of the type: NULL stands in any, and an integer has 64 bits
abbrev pub IsOfType : Cell → ColumnType → Type 0
IsOfType cell.Null kind = ⊤
IsOfType (cell.Int n) column.Int = IsStored (cell.Int n)
IsOfType (cell.Int n) column.Text = ⊥
IsOfType (cell.Text t) column.Int = ⊥
IsOfType (cell.Text t) column.Text = ⊤

-- one cell for each column, of its type
abbrev pub AreOfColumns : List Cell → List Column → Type 0
AreOfColumns [] [] = ⊤
AreOfColumns [] (c ∷ columns) = ⊥
AreOfColumns (x ∷ cells) [] = ⊥
AreOfColumns (x ∷ cells) (c ∷ columns) = IsOfType x c.kind × AreOfColumns cells columns

-- the row may stand in the table: its key is the cell in the key column, and no NULL
pub record IsRowOf (table : Table) (row : RowValue) : Type 0 where
  pub cells : AreOfColumns row.cells table.columns
  pub key : slice_get row.cells table.key ≡ Some row.key
  pub full : row.key ≢ cell.Null
