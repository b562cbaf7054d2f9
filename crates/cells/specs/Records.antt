-- What the fields of a record spell.
use Rattle.std.specs.Prelude.{ℕ, List, [], ◌∷◌, length, slice_index_or, nat_le, Option, Some, None, option_map, option_and_then, if◌then◌else◌}
use Rattle.std.specs.Str.{is_utf8}
use Rattle.cells.specs.declared.cell.Cell.{Cell}
use Rattle.cells.specs.declared.cell.Cell.TheVariants as cell
use Rattle.cells.specs.declared.schema.Column.{Column}
use Rattle.cells.specs.declared.schema.ColumnType.{ColumnType}
use Rattle.cells.specs.declared.schema.ColumnType.TheVariants as column
use Rattle.cells.specs.Integers.{integer_of}
use Rattle.cells.specs.Limits.{text_limit}
use Rattle.cells.specs.Values.{RowValue, Table}

-- the cell that a text spells in a column of the type
abbrev pub text_cell : ColumnType → List ℕ → Option Cell
text_cell column.Int bs = option_map cell.Int (integer_of bs)
text_cell column.Text bs = if nat_le (length bs) text_limit then Some (cell.Text bs) else None

-- the cell that a field spells: an empty field is NULL, and any other a text of UTF-8
abbrev pub cell_of : ColumnType → List ℕ → Option Cell
cell_of kind [] = Some cell.Null
cell_of kind (b ∷ bs) = if is_utf8 (b ∷ bs) then text_cell kind (b ∷ bs) else None

-- one field for each column
abbrev pub cells_of : List Column → List (List ℕ) → Option (List Cell)
cells_of [] [] = Some []
cells_of [] (f ∷ fs) = None
cells_of (c ∷ cs) [] = None
cells_of (c ∷ cs) (f ∷ fs) =
    option_and_then (λ x. option_map (λ xs. x ∷ xs) (cells_of cs fs)) (cell_of c.kind f)

-- the row of these cells, where no NULL stands at the key
abbrev pub keyed : Cell → List Cell → Option RowValue
keyed cell.Null xs = None
keyed (cell.Int n) xs = Some (record { key = cell.Int n; cells = xs })
keyed (cell.Text t) xs = Some (record { key = cell.Text t; cells = xs })

-- the row that the fields spell
abbrev pub row_of : Table → List (List ℕ) → Option RowValue
row_of t fields = option_and_then (λ xs. keyed (slice_index_or xs t.key cell.Null) xs) (cells_of t.columns fields)
