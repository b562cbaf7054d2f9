use Rattle.std.proofs.Common.{ap, ◌∷◌, [], ◌∙◌}
use Rattle.cells.specs.Lent.{lent_cell}
use Rattle.columns.proofs.ColumnsLemmas.{puts_coded}
use Rattle.columns.proofs.code_column.CodeColumn.push_listed.Goals as goal

pub returns : goal.returns
returns c =
    puts_coded (lent_cell c.args.cell.now ∷ []) c.args.self.now c.take_list.new.self c.in_ok-list.list c.code_of.new.self (c.in_ok-code.code ∷ []) c.self-2.inside.by_row.items c.in_ok-list.ensures c.in_ok-code.ensures.code
    (ap (λ v. v.by_row) c.self-2.view_is ∙ ap (λ v. v.by_row) c.in_ok-push_code.ensures)
