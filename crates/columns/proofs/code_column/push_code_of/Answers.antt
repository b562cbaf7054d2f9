use Rattle.cells.specs.Lent.{lent_cell}
use Rattle.columns.proofs.ColumnsLemmas.{codes_grown, stand_grown}
use Rattle.columns.proofs.code_column.push_code_of.Goals as goal

pub returns-clause-within : goal.returns-clause-within
returns-clause-within c =
    codes_grown c.args.list.now c.code_of.new.self (lent_cell c.args.cell.now) c.args.codes.now.items c.push.new.self.items c.in_ok-code.code c.requires c.in_ok-code.ensures.code c.in_ok-push.ensures.items

pub returns-clause-puts : goal.returns-clause-puts
returns-clause-puts c =
    stand_grown c.args.list.now c.code_of.new.self (lent_cell c.args.cell.now) c.args.codes.now.items c.push.new.self.items c.in_ok-code.code c.requires c.in_ok-code.ensures.code c.in_ok-push.ensures.items
