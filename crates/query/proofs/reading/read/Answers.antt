use Rattle.std.proofs.Common.{inr}
use Rattle.std.proofs.lemmas.Result.{err_from_is_err_and}
use Rattle.query.specs.Queries.{too_long}
use Rattle.query.proofs.Faults.{token_fault}
use Rattle.query.proofs.QueriesLaws.{only_answer}
use Rattle.query.proofs.reading.read.Goals as goal

pub returns-then-text-gt-MAX_QUERY_BYTES-clause-found : goal.returns-then-text-gt-MAX_QUERY_BYTES-clause-found
returns-then-text-gt-MAX_QUERY_BYTES-clause-found c = inr (too_long c.if-text-gt-MAX_QUERY_BYTES.true)

pub returns-in_err-tokens-clause-found : goal.returns-in_err-tokens-clause-found
returns-in_err-tokens-clause-found c =
    let p = err_from_is_err_and c.from_residual.result c.from_residual.ensures.1 in
    rw (p.1, p.2) (token_fault c.args.text.now c.if-text-gt-MAX_QUERY_BYTES.false c.in_err-tokens.field-0.0 c.in_err-tokens.ensures.exact)

pub returns-clause-found : goal.returns-clause-found
returns-clause-found c = (rw c.as_slice.ensures.value at c.query_within.ensures) c.args.text.now c.if-text-gt-MAX_QUERY_BYTES.false c.in_ok-tokens.ensures.exact

pub returns-clause-only : goal.returns-clause-only
returns-clause-only c = only_answer c.args.text.now c.query_within.result ((rw c.as_slice.ensures.value at c.query_within.ensures) c.args.text.now c.if-text-gt-MAX_QUERY_BYTES.false c.in_ok-tokens.ensures.exact)
