use Rattle.std.proofs.Common.{◌≡◌, ◌≢◌, ◌∙◌, ap, false, sym, is_ge}
use Rattle.aggs.specs.Values.{lesser}
use Rattle.aggs.proofs.NeededLemmas.{before, first_kept, lesser_is, not_null, on_err, other_kept}
use Rattle.cells.specs.CellOrder.{cell_cmp}
use Rattle.cells.specs.declared.cell.Cell.TheVariants.{Null}
use Rattle.aggs.proofs.least.MinAggregate.step.Goals as goal
use Rattle.aggs.proofs.least.MinAggregate.step.Goals.{in-Some+else-ge, in_default}

pub returns-in_err-clone-clause-needed : goal.returns-in_err-clone-clause-needed
returns-in_err-clone-clause-needed c =
    let some : c.args.cell.now ≢ Null = not_null c.is_null.result c.args.cell.now c.is_null.ensures c.if-is_null.false in
    on_err c.from_residual.result (elim c.match-self.branch [
      | in-Some+else-ge w ↦ λ same.
          let less : is_ge (cell_cmp c.args.cell.now w.in-Some.least) ≡ false = sym w.ge.ensures ∙ w.if-ge.false in
          other_kept lesser c.args.self.now.least w.in-Some.least c.args.cell.now w.in-Some.is (lesser_is w.in-Some.least c.args.cell.now less) (before c.args.cell.now w.in-Some.least less) some (ap (λ kept. kept.least) same)
      | in_default w ↦ λ same. first_kept lesser c.args.self.now.least c.args.cell.now w.in_default.is some (ap (λ kept. kept.least) same)
    ])
