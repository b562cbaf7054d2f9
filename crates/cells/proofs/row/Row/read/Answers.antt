use Rattle.std.proofs.Common.{◌<◌, Err, ap, length, rules}
use Rattle.std.proofs.lemmas.Result.{err_from_is_err_and}
use Rattle.cells.proofs.RecordsLemmas.{refused_field}
use Rattle.cells.proofs.row.Row.read.Goals as goal

pub returns-in_err-read-clause-exact : goal.returns-in_err-read-clause-exact
returns-in_err-read-clause-exact c =
    let p = err_from_is_err_and c.from_residual-in_err-read.result c.from_residual-in_err-read.ensures.1 in
    let l = c.loop-field.invariant in
    let inside : c.loop-field.field-index < length c.args.fields.now = search rules in
    rw (p.1, p.2)
    (refused_field c.args.schema.now c.args.fields.now c.loop-field.field-index _ c.loop-field.row c.in_err-read.field-0.0 l.table inside l.read c.in_err-read.ensures.refused
    (λ is. c.in_err-read.ensures.bad (ap Err is)))
