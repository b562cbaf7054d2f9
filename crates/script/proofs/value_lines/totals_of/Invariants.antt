use Rattle.std.proofs.Common.{◌≡◌, map, take}
use Rattle.cells.specs.TotalOrder.{cell_total}
use Rattle.script.proofs.value_lines.totals_of.Given as goal

abbrev pub invariant-loop-cell : goal.invariant-loop-cell
invariant-loop-cell l = l.totals.items ≡ map cell_total (take l.cell-index l.cells)
