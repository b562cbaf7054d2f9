-- What contracts see of a row, whose cells are bytes.
use Rattle.std.specs.Prelude.{ℕ, List, slice_index_or}
use Rattle.cells.specs.Packing.{cells_in}
use Rattle.cells.specs.Values.{RowValue}
use Rattle.cells.specs.declared.cell.Cell.TheVariants.{Null}
use Rattle.cells.specs.declared.row.Form.{Form}
use Rattle.cells.specs.declared.row.Form.TheVariants.{Near, Far}

-- the place of its key
abbrev pub form_key : Form → ℕ
form_key (Near key count bytes) = key
form_key (Far key count bytes) = key

-- how many cells it has
abbrev pub form_count : Form → ℕ
form_count (Near key count bytes) = count
form_count (Far key count bytes) = count

-- the bytes of its cells, wherever they lie
abbrev pub form_bytes : Form → List ℕ
form_bytes (Near key count bytes) = bytes
form_bytes (Far key count bytes) = bytes.items

-- so many cells in bytes, and the one at the key
abbrev pub packed_row : ℕ → ℕ → List ℕ → RowValue
packed_row key count bytes = record { key = slice_index_or (cells_in count bytes) key Null; cells = cells_in count bytes }
