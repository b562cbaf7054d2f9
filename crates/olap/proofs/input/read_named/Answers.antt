use Rattle.std.proofs.Common.{Err, ap, inl, ◌∙◌}
use Rattle.std.proofs.lemmas.Result.{err_from_is_err_and}
use Rattle.olap.proofs.input.read_named.Goals as goal

pub returns-in_err-input-clause-named : goal.returns-in_err-input-clause-named
returns-in_err-input-clause-named g c =
    let p = err_from_is_err_and c.from_residual.result c.from_residual.ensures.1 in
    rw (p.1 ∙ ap Err p.2) (inl c.in_err-input.ensures.named)
