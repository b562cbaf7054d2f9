use Rattle.std.proofs.Common.{arith, subst, sym}
use Rattle.std.proofs.lemmas.Result.{IfOk-weaker}
use Rattle.board.specs.Editions.{IsListOf}
use Rattle.crew.specs.Gathering.{rows_in}
use Rattle.groups.specs.Groups.{keeps}
use Rattle.groups.specs.Laws.{kept_short}
use Rattle.report.proofs.here.folding_here.Goals as goal

pub returns : goal.returns
returns g c =
    let rows = rows_in c.as_slice.result.now in
    let listed = subst (λ pieces. IsListOf c.args.root.now (rows_in pieces)) (sym c.as_slice.ensures.value) c.in_ok-pieces.ensures.rows.all in
    IfOk-weaker c.folding_of_pieces.result _ _ (λ folding folds. record {
      list = rows;
      all = listed;
      folds = folds;
      few = omega (arith, kept_short (keeps c.args.plan.now.condition) rows, listed.count, c.requires);
    }) c.folding_of_pieces.ensures
