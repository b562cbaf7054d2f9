-- Rows that are read field by field.
use Rattle.std.specs.Prelude.{◌≡◌, ℕ, List, ◌++◌, drop, length, option_map}
use Rattle.cells.specs.Records.{cells_of}
use Rattle.cells.specs.Values.{Table}
use Rattle.cells.specs.declared.cell.Cell.{Cell}

-- a row in the making: its table, and the cells that were read
pub record RowStart : Type 0 where
  pub table : Table
  pub cells : List Cell

-- its cells are those of these fields: whatever fields follow, they spell what is left of the row
pub record HasRead (fields : List (List ℕ)) (start : RowStart) : Type 0 where
  pub spelt : (more : List (List ℕ)) → cells_of start.table.columns (fields ++ more)
      ≡ option_map (λ rest. start.cells ++ rest) (cells_of (drop (length start.cells) start.table.columns) more)
