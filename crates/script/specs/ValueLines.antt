-- Lines that values spell: what puts a row, what deletes one, and what publishes.
use Rattle.std.specs.Prelude.{ℕ, List, ◌++◌, codes, map}
use Rattle.cells.specs.Literals.{literal_of}
use Rattle.cells.specs.TotalOrder.{cell_total}
use Rattle.cells.specs.declared.cell.Cell.{Cell}
use Rattle.forms.specs.Csv.{csv_row}

-- the cells as a record of CSV, with its end
abbrev pub put_line : List Cell → List ℕ
put_line cells = codes "put " ++ csv_row (map cell_total cells)

-- the key as a literal
abbrev pub delete_line : Cell → List ℕ
delete_line key = codes "delete " ++ literal_of (cell_total key)

-- no value is in it
abbrev pub publish_line : List ℕ
publish_line = codes "publish"
