use Rattle.std.proofs.Common.{[], ◌∷◌, subst}
use Rattle.columns.specs.Coding.{Recode}
use Rattle.columns.proofs.ColumnsLemmas.{recode_next}
use Rattle.columns.proofs.cell_list.CellList.codes_of.Goals as goal

pub loop-cell-preserved : goal.loop-cell-preserved
loop-cell-preserved c =
    recode_next c.args.cells.now c.loop-cell.cell-index c.cell-item.result c.args.self.now c.loop-cell.self c.code_of.new.self c.loop-cell.codes.items c.push.new.self.items c.in_ok-code.code
    c.loop-cell-test.true c.cell-item.is c.loop-cell.invariant (subst (λ cell. Recode (cell ∷ []) c.loop-cell.self c.code_of.new.self (c.in_ok-code.code ∷ [])) c.of.ensures c.in_ok-code.ensures.code) c.in_ok-push.ensures.items
