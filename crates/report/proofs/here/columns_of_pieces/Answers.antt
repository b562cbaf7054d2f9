use Rattle.crew.specs.Gathering.{rows_in}
use Rattle.std.proofs.Common.{subst, take, ◌∙◌}
use Rattle.columns.specs.Columns.{HaveAll}
use Rattle.groups.specs.Needed.{needed_by}
use Rattle.report.proofs.HereLemmas.{have_same, holds_more}
use Rattle.report.proofs.here.columns_of_pieces.Goals as goal

pub loop-piece-init : goal.loop-piece-init
loop-piece-init g c = record {
  held = c.in_ok-columns.ensures.none;
  serve = subst (λ l. HaveAll l c.in_ok-columns.columns) (c.as_slice.ensures.value ∙ c.in_ok-needed.ensures) c.in_ok-columns.ensures.named;
}

pub loop-piece-preserved : goal.loop-piece-preserved
loop-piece-preserved g c =
    let before = c.loop-piece.invariant in
    record {
      held = holds_more c.args.pieces.now c.loop-piece.piece-index c.piece-item.result c.take.new.self c.loop-piece-test.true c.piece-item.is
          (c.in_ok-take.ensures.held (rows_in (take c.loop-piece.piece-index c.args.pieces.now)) before.held);
      serve = have_same (needed_by c.args.plan.now) c.loop-piece.columns c.take.new.self c.in_ok-take.ensures.same before.serve;
    }
