use Rattle.std.proofs.Common.{List, ap}
use Rattle.std.proofs.lemmas.Result.{err_from_is_err_and}
use Rattle.cells.specs.declared.total.Total.{Total}
use Rattle.script.proofs.SaysLemmas.{is_want}
use Rattle.script.proofs.reporting.snapshot_values.Goals as goal

pub returns-in_err-rows : goal.returns-in_err-rows
returns-in_err-rows g c =
    let p = err_from_is_err_and c.from_residual.result c.from_residual.ensures.1 in
    rw (p.1, p.2) (is_want c.in_err-rows.field-0.0)

pub returns : goal.returns
returns g c = record {
  is = λ rs left same. ap (λ (rows : List (List Total)). record { headings = c.args.plan.headings; rows = rows }) (c.in_ok-rows.ensures.are rs left same);
}
