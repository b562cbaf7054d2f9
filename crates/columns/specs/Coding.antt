-- Cells put into a column, and rows into columns.
use Rattle.std.specs.Prelude.{◌≡◌, ℕ, true, List, [], ◌∷◌, ◌++◌, set, slice_index_or, Some, None}
use Rattle.cells.specs.Values.{RowValue}
use Rattle.cells.specs.declared.cell.Cell.{Cell}
use Rattle.columns.specs.Columns.{AreCodes, ColumnValue, ColumnsValue, Hold, cells_of, decoded, has}

-- these codes stand for those cells in a list to which cells came, if any did
pub record Recode (cells old new : List Cell) (codes : List ℕ) : Type 0 where
  pub more : List Cell
  pub grown : new ≡ old ++ more
  pub within : AreCodes (Some new) codes
  pub stand : decoded (Some new) codes ≡ cells

-- a column gave its list away: in that list its codes stand for the cells that it had
pub record GivesList (old new : ColumnValue) (list : List Cell) : Type 0 where
  pub given : new.cells ≡ None
  pub within : AreCodes (Some list) new.by_row
  pub stand : decoded (Some list) new.by_row ≡ cells_of old

-- these cells came behind those of the column
pub record Puts (cells : List Cell) (old new : ColumnValue) : Type 0 where
  pub behind : cells_of new ≡ cells_of old ++ cells

abbrev pub no_column : ℕ × ColumnValue
no_column = (0, record { cells = None; by_row = [] })

-- cells came behind those of the column: those for its index
pub record PutsFor (cells : ℕ → List Cell) (old new : ℕ × ColumnValue) : Type 0 where
  pub same : new.0 ≡ old.0
  pub puts : Puts (cells old.0) old.1 new.1

-- they came behind those of the column at a place, and no other has changed
pub record PutsAt (place : ℕ) (cells : ℕ → List Cell) (old new : ColumnsValue) : Type 0 where
  pub into : ℕ × ColumnValue
  pub puts : PutsFor cells (slice_index_or old place no_column) into
  pub is : new ≡ set old place into

-- there is a column of the index, and all that were there; no rows came
pub record AddsColumn (index : ℕ) (old new : ColumnsValue) : Type 0 where
  pub there : has new index ≡ true
  pub stay : (other : ℕ) → has old other ≡ true → has new other ≡ true
  pub none : Hold [] old → Hold [] new

-- whatever rows the columns hold, they hold this one behind them
pub record TakesRow (row : RowValue) (old new : ColumnsValue) : Type 0 where
  pub same : (index : ℕ) → has new index ≡ has old index
  pub serves : (rows : List RowValue) → Hold rows old → Hold (rows ++ row ∷ []) new
