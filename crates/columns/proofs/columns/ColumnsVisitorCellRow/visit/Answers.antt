use Rattle.std.proofs.Common.{◌∷◌, [], arith, get_or, subst, ◌∙◌}
use Rattle.cells.specs.declared.cell.Cell.TheVariants.{Null}
use Rattle.columns.specs.Coding.{PutsAt}
use Rattle.columns.specs.Columns.{cells_at}
use Rattle.columns.proofs.HoldLemmas.{cells_both, gone_all, gone_has, gone_length, gone_none, gone_step}
use Rattle.columns.proofs.columns.ColumnsVisitorCellRow.visit.Goals as goal

pub loop-place-init : goal.loop-place-init
loop-place-init c = record { gone = gone_none (λ k. cells_at k (c.args.row.now ∷ [])) c.args.self.now; walk = c.walk-cells.ensures }

pub take_at-requires : goal.take_at-requires
take_at-requires c =
    omega (arith, gone_length (λ k. cells_at k (c.args.row.now ∷ [])) c.loop-place.place c.args.self.now c.loop-place.self c.loop-place.invariant.gone, c.loop-place-test.true, c.column_count-place-end.ensures)

pub loop-place-preserved : goal.loop-place-preserved
loop-place-preserved c =
    let walk = c.loop-place.invariant.walk in
    record {
      gone =
          gone_step (λ k. cells_at k (c.args.row.now ∷ [])) c.loop-place.place c.args.self.now c.loop-place.self c.take_at.new.self
          (omega (arith, c.loop-place-test.true, c.column_count-place-end.ensures)) c.loop-place.invariant.gone
          (subst (λ xs. PutsAt c.loop-place.place (λ k. get_or xs k Null ∷ []) c.loop-place.self c.take_at.new.self) walk c.in_ok-take_at.ensures.puts);
      walk = c.take_at.ensures.same ∙ walk;
    }

pub returns : goal.returns
returns c = record {
  same = λ index. gone_has (λ k. cells_at k (c.args.row.now ∷ [])) index c.loop-place.place c.args.self.now c.loop-place.self c.loop-place.invariant.gone;
  serves = λ rows held.
      gone_all (λ k. cells_at k (c.args.row.now ∷ [])) rows _ (cells_both rows (c.args.row.now ∷ [])) c.loop-place.place c.args.self.now c.loop-place.self
      (omega (arith, c.loop-place-test.false, c.column_count-place-end.ensures)) c.loop-place.invariant.gone held;
}
