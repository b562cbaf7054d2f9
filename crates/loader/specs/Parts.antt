-- What parts hold: the rows of their data records, or the first faulty record.
use Rattle.std.specs.Prelude.{Bool, true, false, ◌&&◌, map, ℕ, ◌+◌, List, [], ◌∷◌, ◌++◌, bytes_eq, length, Option, Some, None, Result, Ok, Err, if◌then◌else◌}
use Rattle.std.specs.Borrow.{Bor}
use Rattle.std.specs.Char.{to_ascii_uppercase}
use Rattle.cells.specs.Records.{row_of}
use Rattle.cells.specs.Values.{RowValue, Table}
use Rattle.cells.specs.declared.schema.Column.{Column}
use Rattle.loader.specs.Records.{records_of}

-- a record's row and the rows behind it, or the record's number where it spells none
abbrev pub and_rows : ℕ → Option RowValue → Result (List RowValue) ℕ → Result (List RowValue) ℕ
and_rows number None behind = Err number
and_rows number (Some row) (Ok rows) = Ok (row ∷ rows)
and_rows number (Some row) (Err later) = Err later

-- the rows of records that are numbered from this one on, or the number of the first that spells no row
abbrev pub rows_from : Table → ℕ → List (List (List ℕ)) → Result (List RowValue) ℕ
rows_from t number [] = Ok []
rows_from t number (fields ∷ later) = and_rows number (row_of t fields) (rows_from t (number + 1) later)

-- the field, with its letters in upper case, is the column's name
abbrev pub names_column : Column → List ℕ → Bool
names_column column field = bytes_eq (map to_ascii_uppercase field) column.name

-- the fields are the columns' names, each in its place
abbrev pub is_header : List Column → List (List ℕ) → Bool
is_header [] [] = true
is_header [] (field ∷ fields) = false
is_header (column ∷ columns) [] = false
is_header (column ∷ columns) (field ∷ fields) = names_column column field && is_header columns fields

-- the rows of the records behind the header, which is record 0
abbrev pub rows_behind_header : Table → List (List (List ℕ)) → Result (List RowValue) ℕ
rows_behind_header t [] = Err 0
rows_behind_header t (header ∷ later) = if is_header t.columns header then rows_from t 1 later else Err 0

-- the rows that a part puts, in their order, or the number of its first faulty record
abbrev pub rows_of_part : Table → List ℕ → Result (List RowValue) ℕ
rows_of_part t bytes = rows_behind_header t (records_of bytes)

-- the part of this number has its first faulty record at this number
pub record FaultyRecord : Type 0 where
  pub part : ℕ
  pub entry : ℕ

-- a part of a list: its number, and its bytes
abbrev pub Part : Type 0
Part = ℕ × List ℕ

-- the part that is lent so
abbrev pub part_of : ℕ × Bor (List ℕ) → Part
part_of p = (p.0, p.1.now)

abbrev pub part_len : Part → ℕ
part_len part = length part.1

-- the rows of a part and then those of the parts behind it, or the first faulty record
abbrev pub and_parts : ℕ → Result (List RowValue) ℕ → Result (List RowValue) FaultyRecord → Result (List RowValue) FaultyRecord
and_parts part (Err number) behind = Err (record { part = part; entry = number })
and_parts part (Ok rows) (Ok more) = Ok (rows ++ more)
and_parts part (Ok rows) (Err faulty) = Err faulty

-- the rows that the parts of a list put, in listed order, or the first listed part that has a faulty record
abbrev pub rows_of_parts : Table → List Part → Result (List RowValue) FaultyRecord
rows_of_parts t [] = Ok []
rows_of_parts t (part ∷ later) = and_parts part.0 (rows_of_part t part.1) (rows_of_parts t later)
