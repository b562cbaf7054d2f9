-- Cells as values, and the order of values: that of cells, over integers of 128 bits.
use Rattle.std.specs.Ordering.{int_cmp}
use Rattle.std.specs.declared.cmp.Ordering.{Ordering}
use Rattle.std.specs.declared.cmp.Ordering.TheVariants.{Less, Equal, Greater}
use Rattle.cells.specs.TextOrder.{bytes_cmp}
use Rattle.cells.specs.declared.cell.Cell.{Cell}
use Rattle.cells.specs.declared.cell.Cell.TheVariants as cell
use Rattle.cells.specs.declared.total.Total.{Total}
use Rattle.cells.specs.declared.total.Total.TheVariants.{Null, Int, Text}

-- a cell as a value
abbrev pub cell_total : Cell → Total
cell_total cell.Null = Null
cell_total (cell.Int n) = Int n
cell_total (cell.Text t) = Text t

-- NULL, then the integers by value, then the texts by bytes
abbrev pub total_cmp : Total → Total → Ordering
total_cmp Null Null = Equal
total_cmp Null (Int b) = Less
total_cmp Null (Text b) = Less
total_cmp (Int a) Null = Greater
total_cmp (Int a) (Int b) = int_cmp a b
total_cmp (Int a) (Text b) = Less
total_cmp (Text a) Null = Greater
total_cmp (Text a) (Int b) = Greater
total_cmp (Text a) (Text b) = bytes_cmp a b
