use Rattle.std.proofs.Common.{◌∷◌, ap, arith, inr, length, refl}
use Rattle.std.proofs.lemmas.Result.{err_from_is_err_and}
use Rattle.query.specs.Grammar.{AND, BETWEEN}
use Rattle.query.proofs.Lists.{closed, none_closed, not_closed, part_err, split_found, split_nothing, turn_err, turn_found}
use Rattle.query.proofs.TestsLemmas.{range_split}
use Rattle.query.proofs.conditions.between_test.Goals as goal

pub returns-in_err-low-clause-reads : goal.returns-in_err-low-clause-reads
returns-in_err-low-clause-reads g c =
    let p = err_from_is_err_and c.from_residual.result c.from_residual.ensures.1 in
    rw (p.1, p.2) (part_err (λ none. split_nothing (range_split c.args.left (BETWEEN ∷ c.args.tokens.now) c.args.negated c.args.tokens.now refl) (none_closed AND c.args.tokens.now (λ r. tt) none)) c.in_err-low.ensures.reads)

pub returns-in_default-clause-reads : goal.returns-in_default-clause-reads
returns-in_default-clause-reads g c =
    inr (refl, split_nothing (range_split c.args.left (BETWEEN ∷ c.args.tokens.now) c.args.negated c.args.tokens.now refl) (not_closed AND c.args.tokens.now (λ r. tt) c.in_ok-low.ensures.reads c.in_default.ensures))

pub returns-in_err-high-clause-reads : goal.returns-in_err-high-clause-reads
returns-in_err-high-clause-reads g c =
    let p = err_from_is_err_and c.from_residual-in_err-high.result c.from_residual-in_err-high.ensures.1 in
    let low = closed AND c.args.tokens.now (λ r. tt) c.in_ok-low.ensures.reads c.in-Some.more.now c.in-Some.ensures in
    rw (p.1, p.2) (turn_err (split_found (range_split c.args.left (BETWEEN ∷ c.args.tokens.now) c.args.negated c.args.tokens.now refl) low) c.in_err-high.ensures.reads)

pub returns-clause-reads : goal.returns-clause-reads
returns-clause-reads g c =
    let low = closed AND c.args.tokens.now (λ r. tt) c.in_ok-low.ensures.reads c.in-Some.more.now c.in-Some.ensures in
    turn_found (split_found (range_split c.args.left (BETWEEN ∷ c.args.tokens.now) c.args.negated c.args.tokens.now refl) low) c.in_ok-high.ensures.reads

pub returns-clause-shorter : goal.returns-clause-shorter
returns-clause-shorter g c = omega (arith, c.in_ok-low.ensures.shorter, ap length c.in-Some.ensures, c.in_ok-high.ensures.shorter)
