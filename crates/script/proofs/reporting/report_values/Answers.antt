use Rattle.std.proofs.Common.{inr}
use Rattle.std.proofs.lemmas.Result.{err_from_is_err_and}
use Rattle.board.specs.Editions as editions
use Rattle.script.proofs.SaysLemmas.{gives_values}
use Rattle.script.proofs.reporting.report_values.Goals as goal

pub returns-in_err-plan : goal.returns-in_err-plan
returns-in_err-plan g c =
    let p = err_from_is_err_and c.from_residual.result c.from_residual.ensures.1 in
    rw (p.1, p.2) (inr (rw c.schema.ensures at c.in_err-plan.ensures))

pub returns : goal.returns
returns g c =
    gives_values c.args.setup.now.manner.now (editions.schema c.args.keeper.now) (editions.published c.args.keeper.now) c.args.text.now c.in_ok-plan.plan (rw c.schema.ensures at c.in_ok-plan.ensures) c.plan_values.result c.plan_values.ensures
