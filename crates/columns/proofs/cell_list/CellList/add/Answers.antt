use Rattle.std.proofs.Common.{arith, rules}
use Rattle.cells.specs.Lent.{lent_cell}
use Rattle.columns.proofs.ColumnsLemmas.{recode_added}
use Rattle.columns.proofs.cell_list.CellList.add.Goals as goal

pub returns-clause-code : goal.returns-clause-code
returns-clause-code c = recode_added c.self.inside.cells.items c.args.self.now c.push.new.self.items (lent_cell c.args.cell.now) c.len-code.result c.self.view_is (search rules) (omega (arith, c.len-code.ensures, c.self.inside.cells.ok.0))
