-- The code of sets of cells, by which a proof tells accumulators apart.
use Rattle.std.specs.Coded.{Coded}
use Rattle.std.specs.FinSet.{code}
use Rattle.aggs.specs.Differing.{Cells}
use Rattle.cells.specs.CellOrder.{cell_cmp}
use Rattle.cells.specs.Codes.{coded_cell}

abbrev pub coded_cells : Coded Cells
coded_cells = code {R = cell_cmp} coded_cell
