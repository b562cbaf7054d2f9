use Rattle.std.proofs.lemmas.Result.{IfOk-weaker}
use Rattle.groups.specs.Groups.{kept}
use Rattle.report.proofs.here.rows_here.Goals as goal

pub returns : goal.returns
returns g c =
    let plan = c.args.plan.now in
    let made = c.in_ok-folding.ensures in
    IfOk-weaker c.into_rows.result _ _ (λ found are. record { list = made.list; all = made.all; are = are })
    (c.into_rows.ensures plan (kept plan.condition made.list) made.folds)
