-- Columns of rows: column by column their cells, in the order of the rows, as numbers that stand for cells.
use Rattle.std.specs.Prelude.{◌≡◌, ℕ, ◌<◌, ◌==◌, pos, ◌-ℤ◌, Bool, true, if◌then◌else◌, List, length, map, slice_index_or, Option, Some, None, ⊤}
use Rattle.std.specs.List.{AllByRecursion, list_any}
use Rattle.cells.specs.Values.{RowValue}
use Rattle.cells.specs.declared.cell.Cell.{Cell}
use Rattle.cells.specs.declared.cell.Cell.TheVariants.{Null, Int}

-- the rows' cells in the column of an index
abbrev pub cells_at : ℕ → List RowValue → List Cell
cells_at index rows = map (λ r. slice_index_or r.cells index Null) rows

-- the rows of entries, each under its key
abbrev pub rows_of : List (Cell × RowValue) → List RowValue
rows_of entries = map (λ e. e.1) entries

-- a column: a list of cells, if it has one, and row by row a code
pub record ColumnValue : Type 0 where
  pub cells : Option (List Cell)
  pub by_row : List ℕ

-- the cell that the code of a number stands for: 0 for NULL, and each other code for the integer that is less by 2^31
abbrev pub number_cell : ℕ → Cell
number_cell code = if code == 0 then Null else Int (pos code -ℤ pos 2147483648)

-- the cell that a code stands for: that of the list whose index it is, or, where there is no list, that of a number's code
abbrev pub cell_of : Option (List Cell) → ℕ → Cell
cell_of None code = number_cell code
cell_of (Some cells) code = slice_index_or cells code Null

-- each code stands for a cell: where there is a list, it is the index of one of its cells
abbrev pub AreCodes : Option (List Cell) → List ℕ → Type 0
AreCodes None codes = ⊤
AreCodes (Some cells) codes = AllByRecursion (λ code. code < length cells) codes

-- the cells that the codes stand for
abbrev pub decoded : Option (List Cell) → List ℕ → List Cell
decoded cells codes = map (λ code. cell_of cells code) codes

-- the cells of a column, one for each row
abbrev pub cells_of : ColumnValue → List Cell
cells_of column = decoded column.cells column.by_row

-- columns, each with the index that it has in the rows
abbrev pub ColumnsValue : Type 0
ColumnsValue = List (ℕ × ColumnValue)

-- whether a column has the index
abbrev pub has : ColumnsValue → ℕ → Bool
has columns index = list_any (λ c. c.0 == index) columns

-- each of the indexes has a column
abbrev pub HaveAll : List ℕ → ColumnsValue → Type 0
HaveAll indexes columns = AllByRecursion (λ index. has columns index ≡ true) indexes

-- the columns hold the rows: each has their cells of its index
pub record Hold (rows : List RowValue) (columns : ColumnsValue) : Type 0 where
  pub each : AllByRecursion (λ c. cells_of c.1 ≡ cells_at c.0 rows) columns
