use Rattle.std.proofs.Common.{◌≡◌, ◌≢◌, ◌∙◌, ap, false, sym, is_ge}
use Rattle.aggs.specs.Values.{greater}
use Rattle.aggs.proofs.NeededLemmas.{before, first_kept, greater_is, not_null, on_err, other_kept}
use Rattle.cells.specs.CellOrder.{cell_cmp}
use Rattle.cells.specs.declared.cell.Cell.TheVariants.{Null}
use Rattle.aggs.proofs.greatest.MaxAggregate.step.Goals as goal
use Rattle.aggs.proofs.greatest.MaxAggregate.step.Goals.{in-Some+else-ge, in_default}

pub returns-in_err-clone-clause-needed : goal.returns-in_err-clone-clause-needed
returns-in_err-clone-clause-needed c =
    let some : c.args.cell.now ≢ Null = not_null c.is_null.result c.args.cell.now c.is_null.ensures c.if-is_null.false in
    on_err c.from_residual.result (elim c.match-self.branch [
      | in-Some+else-ge w ↦ λ same.
          let less : is_ge (cell_cmp w.in-Some.greatest c.args.cell.now) ≡ false = sym w.ge.ensures ∙ w.if-ge.false in
          other_kept greater c.args.self.now.greatest w.in-Some.greatest c.args.cell.now w.in-Some.is (greater_is w.in-Some.greatest c.args.cell.now less) (λ same. before w.in-Some.greatest c.args.cell.now less (sym same)) some (ap (λ kept. kept.greatest) same)
      | in_default w ↦ λ same. first_kept greater c.args.self.now.greatest c.args.cell.now w.in_default.is some (ap (λ kept. kept.greatest) same)
    ])
