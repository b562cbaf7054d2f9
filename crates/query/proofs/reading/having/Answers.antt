use Rattle.std.proofs.Common.{◌≡◌, ◌∙◌, false, inr, refl, sym, true}
use Rattle.std.proofs.lemmas.Result.{err_from_is_err_and}
use Rattle.query.proofs.Lists.{turn_err, turn_found}
use Rattle.query.proofs.Ends.{having_by, having_none, having_other}
use Rattle.query.proofs.reading.having.Goals as goal

pub returns-then-is_end : goal.returns-then-is_end
returns-then-is_end c = rw c.none.ensures (having_none c.args.tokens.now (c.is_end.ensures.0 c.if-is_end.true))

pub returns-in_default : goal.returns-in_default
returns-in_default c =
    inr (refl, having_other c.args.tokens.now (λ e. let both : true ≡ false = sym (c.is_end.ensures.1 e) ∙ c.if-is_end.false in cc) c.in_default.ensures)

pub returns-in_err-predicate : goal.returns-in_err-predicate
returns-in_err-predicate c =
    let p = err_from_is_err_and c.from_residual.result c.from_residual.ensures.1 in
    rw (p.1, p.2) (turn_err (having_by c.args.tokens.now c.in-Some.more.now c.in-Some.ensures) c.in_err-predicate.ensures)

pub returns : goal.returns
returns c = rw c.in_ok-of.ensures (turn_found (having_by c.args.tokens.now c.in-Some.more.now c.in-Some.ensures) c.in_ok-predicate.ensures)
