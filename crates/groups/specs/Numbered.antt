-- Rows numbered by their groups.
use Rattle.std.specs.Prelude.{◌≡◌, ℕ, ◌<◌, ◌≤◌, ◌^◌, List, [], length, map, slice_index_or}
use Rattle.std.specs.List.{AllByRecursion, Contains}
use Rattle.cells.specs.Values.{RowValue}
use Rattle.cells.specs.declared.cell.Cell.{Cell}
use Rattle.cells.specs.declared.cell.Cell.TheVariants.{Null}
use Rattle.columns.specs.Columns.{ColumnValue, ColumnsValue, Hold}
use Rattle.groups.specs.Groups.{tuple_of}

abbrev pub no_row : RowValue
no_row = record { key = Null; cells = [] }

-- the rows of these indexes in a list
abbrev pub picked_rows : List RowValue → List ℕ → List RowValue
picked_rows rows indexes = map (λ i. slice_index_or rows i no_row) indexes

-- the tuples of a set are numbered, and each row has the number of its tuple. Each number has a row; two may have one tuple
pub record AreNumbered (set : List ℕ) (rows : List RowValue) (numbers : List ℕ) (tuples : List (List Cell)) : Type 0 where
  pub within : AllByRecursion (λ n. n < length tuples) numbers
  pub stand : map (λ n. slice_index_or tuples n []) numbers ≡ map (tuple_of set) rows
  pub met : (n : ℕ) → n < length tuples → Contains numbers n

-- there are numbers for so many rows, each that of a tuple
pub record NumberAll (count : ℕ) (numbers : List ℕ) (tuples : List (List Cell)) : Type 0 where
  pub counted : length numbers ≡ count
  pub within : AllByRecursion (λ n. n < length tuples) numbers

-- there is a code for each of the rows of these indexes, which are not too many
pub record AreRowsOf (codes indexes : List ℕ) : Type 0 where
  pub within : AllByRecursion (λ i. i < length codes) indexes
  pub few : length indexes ≤ 2 ^ 32

-- the column has a cell for each of these rows
abbrev pub HasRows : ColumnValue → List ℕ → Type 0
HasRows column indexes = AreRowsOf column.by_row indexes

-- the columns hold rows, those of these indexes among them
pub record HaveRows (columns : ColumnsValue) (indexes : List ℕ) : Type 0 where
  pub rows : List RowValue
  pub held : Hold rows columns
  pub within : AllByRecursion (λ i. i < length rows) indexes
  pub few : length indexes ≤ 2 ^ 32

-- the columns hold so many rows, which are not too many
pub record HoldCount (columns : ColumnsValue) (count : ℕ) : Type 0 where
  pub rows : List RowValue
  pub held : Hold rows columns
  pub counted : length rows ≡ count
  pub few : count ≤ 2 ^ 32
