use Rattle.std.proofs.Common.{take}
use Rattle.columns.specs.Coding.{Recode}
use Rattle.columns.proofs.cell_list.CellList.codes_of.Given as goal

abbrev pub invariant-loop-cell : goal.invariant-loop-cell
invariant-loop-cell l = Recode (take l.cell-index l.cells) l.fn.self l.self l.codes.items
