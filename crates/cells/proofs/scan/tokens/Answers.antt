use Rattle.std.proofs.Common.{◌<◌, sym, subst, rules, length}
use Rattle.std.proofs.lemmas.List.{nil_from_length}
use Rattle.std.proofs.lemmas.Result.{err_from_is_err_and}
use Rattle.cells.proofs.TokensLemmas.{Kept, kept_first, kept_more, kept_found, kept_only, kept_fails, token_shorter}
use Rattle.cells.proofs.scan.tokens.Goals as goal

pub loop-rest-init : goal.loop-rest-init
loop-rest-init c = record {
  text = c.without_blanks-rest.utf8;
  kept = subst (λ found. Kept c.args.text.now found c.without_blanks-rest.result.now) (sym c.new-found.ensures.items) (kept_first c.args.text.now c.without_blanks-rest.result.now c.without_blanks-rest.ensures);
}

pub loop-rest-smaller : goal.loop-rest-smaller
loop-rest-smaller c = subst (λ r. length r < length c.loop-rest.rest.now) (sym c.without_blanks-rest-in-loop-rest.ensures) (token_shorter c.loop-rest.rest.now c.in_ok-token.token c.in_ok-token.behind.now c.in_ok-token.ensures)

pub loop-rest-preserved : goal.loop-rest-preserved
loop-rest-preserved c = record {
  text = c.without_blanks-rest-in-loop-rest.utf8;
  kept =
      kept_more c.args.text.now c.loop-rest.rest.now c.in_ok-token.behind.now c.without_blanks-rest-in-loop-rest.result.now c.loop-rest.found.items c.push.new.self.items c.in_ok-token.token
      c.in_ok-token.ensures c.in_ok-push.ensures.items c.without_blanks-rest-in-loop-rest.ensures c.loop-rest.invariant.kept;
}

pub returns-clause-found : goal.returns-clause-found
returns-clause-found c = kept_found c.args.text.now c.loop-rest.rest.now c.loop-rest.found.items c.loop-rest.invariant.kept (nil_from_length c.loop-rest.rest.now (search rules))

pub returns-clause-only : goal.returns-clause-only
returns-clause-only c = kept_only c.args.text.now c.loop-rest.rest.now c.loop-rest.found.items c.loop-rest.invariant.kept (nil_from_length c.loop-rest.rest.now (search rules))

pub returns-in_err-token-clause-only : goal.returns-in_err-token-clause-only
returns-in_err-token-clause-only c =
    let fault = err_from_is_err_and c.from_residual.result c.from_residual.ensures.1 in
    rw (fault.1, fault.2) (kept_fails c.args.text.now c.loop-rest.rest.now c.loop-rest.found.items c.in_err-token.field-0.0 c.loop-rest.invariant.kept (search rules) c.in_err-token.ensures)
