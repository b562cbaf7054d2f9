use Rattle.std.proofs.Common.{arith}
use Rattle.columns.specs.Columns.{cells_at, rows_of}
use Rattle.columns.proofs.HoldLemmas.{cells_both, gone_all, gone_has, gone_length, gone_none, gone_step}
use Rattle.columns.proofs.columns.Columns.take_kept.Goals as goal

pub loop-place-init : goal.loop-place-init
loop-place-init g c = (gone_none (λ k. cells_at k (rows_of c.args.piece.now)) c.args.self.now, c.in-Some.ensures)

pub take_kept_at-requires-clause-place : goal.take_kept_at-requires-clause-place
take_kept_at-requires-clause-place g c =
    omega (
      arith,
      gone_length (λ k. cells_at k (rows_of c.args.piece.now)) c.loop-place.place c.args.self.now c.loop-place.self c.loop-place.invariant.0,
      c.loop-place-test.true,
      c.column_count-place-end.ensures,
    )

pub loop-place-preserved : goal.loop-place-preserved
loop-place-preserved g c = (
  gone_step (λ k. cells_at k (rows_of c.args.piece.now)) c.loop-place.place c.args.self.now c.loop-place.self c.take_kept_at.new.self
      (omega (arith, c.loop-place-test.true, c.column_count-place-end.ensures)) c.loop-place.invariant.0 c.in_ok-take_kept_at.ensures,
  c.loop-place.invariant.1,
)

pub returns-clause-same : goal.returns-clause-same
returns-clause-same g c = λ index. gone_has (λ k. cells_at k (rows_of c.args.piece.now)) index c.loop-place.place c.args.self.now c.loop-place.self c.loop-place.invariant.0

pub returns-clause-held : goal.returns-clause-held
returns-clause-held g c = λ rows held.
    gone_all (λ k. cells_at k (rows_of c.args.piece.now)) rows _ (cells_both rows (rows_of c.args.piece.now)) c.loop-place.place c.args.self.now c.loop-place.self
    (omega (arith, c.loop-place-test.false, c.column_count-place-end.ensures)) c.loop-place.invariant.0 held
