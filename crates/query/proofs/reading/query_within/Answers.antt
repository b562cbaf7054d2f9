use Rattle.std.proofs.Common.{◌≡◌, ◌∙◌, inr, sym, false}
use Rattle.std.proofs.lemmas.Result.{err_from_is_err_and}
use Rattle.query.specs.Depth.{is_too_deep}
use Rattle.query.specs.Queries.{too_deep}
use Rattle.query.proofs.Faults.{few_found, kept_by, many_fault, query_fault}
use Rattle.query.proofs.reading.query_within.Goals as goal

pub returns-then-is_too_deep : goal.returns-then-is_too_deep
returns-then-is_too_deep c = λ text short spelt. inr (too_deep short spelt (sym c.is_too_deep.ensures ∙ c.if-is_too_deep.true))

pub returns-in_err-clauses : goal.returns-in_err-clauses
returns-in_err-clauses c =
    let p = err_from_is_err_and c.from_residual.result c.from_residual.ensures.1 in
    let shallow : is_too_deep c.args.tokens.now ≡ false = sym c.is_too_deep.ensures ∙ c.if-is_too_deep.false in
    rw (p.1, p.2) (λ text short spelt. query_fault text c.args.tokens.now (record { short = short; spelt = spelt; shallow = shallow }) c.in_err-clauses.field-0.0 c.in_err-clauses.ensures)

pub returns-in_err-clauses-2 : goal.returns-in_err-clauses-2
returns-in_err-clauses-2 c =
    let p = err_from_is_err_and c.from_residual-in_err-clauses-2.result c.from_residual-in_err-clauses-2.ensures.1 in
    let shallow : is_too_deep c.args.tokens.now ≡ false = sym c.is_too_deep.ensures ∙ c.if-is_too_deep.false in
    rw (p.1, p.2) (λ text short spelt.
    many_fault text c.args.tokens.now (record { short = short; spelt = spelt; shallow = shallow }) c.in_ok-clauses.clauses c.in_err-clauses-2.field-0.0 c.in_ok-clauses.ensures c.in_err-clauses-2.ensures)

pub of-requires : goal.of-requires
of-requires c = kept_by c.args.tokens.now c.in_ok-clauses.clauses c.in_ok-clauses-2.clauses c.in_ok-clauses.ensures c.in_ok-clauses-2.ensures

pub returns : goal.returns
returns c =
    let shallow : is_too_deep c.args.tokens.now ≡ false = sym c.is_too_deep.ensures ∙ c.if-is_too_deep.false in
    λ text short spelt. rw c.of.ensures (few_found text c.args.tokens.now (record { short = short; spelt = spelt; shallow = shallow }) c.in_ok-clauses.clauses c.in_ok-clauses-2.clauses c.in_ok-clauses.ensures c.in_ok-clauses-2.ensures)
