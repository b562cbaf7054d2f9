-- Cells that are lent.
use Rattle.cells.specs.declared.cell.Cell.{Cell}
use Rattle.cells.specs.declared.cell.Cell.TheVariants as cell
use Rattle.cells.specs.declared.lent.LentCell.{LentCell}
use Rattle.cells.specs.declared.lent.LentCell.TheVariants as lent

-- the cell that is lent
abbrev pub lent_cell : LentCell → Cell
lent_cell lent.Null = cell.Null
lent_cell (lent.Int n) = cell.Int n
lent_cell (lent.Text t) = cell.Text t.bytes.now
