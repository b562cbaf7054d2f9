-- What contracts see of a schema and of a row.
use Rattle.std.specs.Prelude.{ℕ, List}
use Rattle.cells.specs.declared.cell.Cell.{Cell}
use Rattle.cells.specs.declared.schema.Column.{Column}

-- a schema: the table's name, its columns in order, and the place of the key column
pub record Table : Type 0 where
  pub name : List ℕ
  pub columns : List Column
  pub key : ℕ

-- a row: the cell at the key, and all its cells in the order of the columns
pub record RowValue : Type 0 where
  pub key : Cell
  pub cells : List Cell
