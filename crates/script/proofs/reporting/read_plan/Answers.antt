use Rattle.std.proofs.lemmas.Result.{err_from_is_err_and}
use Rattle.script.proofs.SaysLemmas.{checked_text, refused_text}
use Rattle.script.proofs.reporting.read_plan.Goals as goal

pub returns-in_err-query : goal.returns-in_err-query
returns-in_err-query c =
    let p = err_from_is_err_and c.from_residual.result c.from_residual.ensures.1 in
    rw (p.1, p.2) (refused_text c.args.schema.now c.args.text.now c.in_err-query.field-0.0 c.in_err-query.ensures.found)

pub returns : goal.returns
returns c =
    checked_text c.args.schema.now c.args.text.now c.in_ok-query.query c.check.result c.in_ok-query.ensures.found c.check.ensures.exact
