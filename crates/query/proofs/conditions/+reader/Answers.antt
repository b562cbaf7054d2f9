use Rattle.std.proofs.Common.{ap, arith, length}
use Rattle.std.proofs.lemmas.Result.{IfOk-weaker, err_from_is_err_and}
use Rattle.query.specs.Grammar.{AND, OR, SpellsTerm, SpellsFactor, rparen}
use Rattle.query.specs.Reading.{AfterAnd, Any}
use Rattle.query.proofs.Lists.{err_closed, kept_end, kept_first, kept_next, kept_none, part_err, reads_closed, turn_err, turn_found, turn_reads}
use Rattle.query.proofs.Predicates.{term_factors, factor_not, factor_plain, or_ends_and, paren_ends, predicate_terms, primary_parens, primary_test}
use Rattle.query.proofs.Shorter.{shorter_closed}
use Rattle.query.proofs.conditions.+reader.Goals as goal

pub primary-returns-in-Some-clause-reads : goal.primary-returns-in-Some-clause-reads
primary-returns-in-Some-clause-reads g t c =
    turn_reads (λ x. (x.0, x.1.now)) c.predicate_in.result (primary_parens g.met.C.Leaf.begins c.args.tokens.now c.in-Some.more.now c.in-Some.ensures) c.predicate_in.ensures.reads

pub primary-returns-in_err-test-clause-reads : goal.primary-returns-in_err-test-clause-reads
primary-returns-in_err-test-clause-reads g t c =
    let p = err_from_is_err_and c.from_residual.result c.from_residual.ensures.1 in
    rw (p.1, p.2) (turn_err (primary_test c.args.tokens.now c.in_default.ensures) c.in_err-test.ensures.reads)

pub primary-returns-clause-reads : goal.primary-returns-clause-reads
primary-returns-clause-reads g t c =
    rw c.test-2.ensures (turn_found (primary_test c.args.tokens.now c.in_default.ensures) c.in_ok-test.ensures.reads)

pub factor-returns-in_err-inner-clause-reads : goal.factor-returns-in_err-inner-clause-reads
factor-returns-in_err-inner-clause-reads g t c =
    let p = err_from_is_err_and c.from_residual.result c.from_residual.ensures.1 in
    rw (p.1, p.2) (turn_err (factor_not g.met.C.Leaf.begins c.args.tokens.now c.in-Some.more.now c.in-Some.ensures) c.in_err-inner.ensures.reads)

pub factor-returns-in-Some-clause-reads : goal.factor-returns-in-Some-clause-reads
factor-returns-in-Some-clause-reads g t c =
    rw c.in_ok-not.ensures (turn_found (factor_not g.met.C.Leaf.begins c.args.tokens.now c.in-Some.more.now c.in-Some.ensures) c.in_ok-inner.ensures.reads)

pub factor-returns-clause-reads : goal.factor-returns-clause-reads
factor-returns-clause-reads g t c =
    turn_reads (λ x. (x.0, x.1.now)) c.primary-2.result (factor_plain c.args.tokens.now c.in_default.ensures) c.primary-2.ensures.reads

pub term-returns-in_err-factor-clause-reads : goal.term-returns-in_err-factor-clause-reads
term-returns-in_err-factor-clause-reads g t c =
    let p = err_from_is_err_and c.from_residual.result c.from_residual.ensures.1 in
    rw (p.1, p.2) (turn_err (term_factors c.args.tokens.now) (part_err
    (kept_none AND (SpellsFactor g.C.Phrase.spells) Any (λ us. tt) c.args.tokens.now c.loop-factors.rest.now c.loop-factors.factors.items c.loop-factors.invariant.kept) c.in_err-factor.ensures.reads))

pub term-returns-in_default-clause-reads : goal.term-returns-in_default-clause-reads
term-returns-in_default-clause-reads g t c =
    rw c.all_of.ensures (turn_found (term_factors c.args.tokens.now)
    (kept_end AND (SpellsFactor g.C.Phrase.spells) Any (λ us. tt) c.args.tokens.now c.loop-factors.rest.now c.loop-factors.factors.items c.loop-factors.invariant.kept
    c.in_ok-factor.factor c.in_ok-factor.behind.now c.push.new.self.items c.in_ok-factor.ensures.reads c.in_ok-push.ensures.items c.in_default.ensures))

pub term-loop-factors-preserved : goal.term-loop-factors-preserved
term-loop-factors-preserved g t c =
    let more = ap length c.in-Some.ensures in
    record {
      kept =
          kept_next AND (SpellsFactor g.C.Phrase.spells) Any (λ us. tt) c.args.tokens.now c.loop-factors.rest.now c.loop-factors.factors.items c.loop-factors.invariant.kept
          c.in_ok-factor.factor c.in_ok-factor.behind.now c.push.new.self.items c.in_ok-factor.ensures.reads c.in_ok-push.ensures.items
          c.in-Some.more.now c.in-Some.ensures;
      shorter = omega (arith, c.in_ok-factor.ensures.shorter);
    }

pub predicate-returns-in_err-term-clause-reads : goal.predicate-returns-in_err-term-clause-reads
predicate-returns-in_err-term-clause-reads g t c =
    let p = err_from_is_err_and c.from_residual.result c.from_residual.ensures.1 in
    rw (p.1, p.2) (turn_err (predicate_terms c.args.tokens.now) (part_err
    (kept_none OR (SpellsTerm g.C.Phrase.spells) AfterAnd or_ends_and c.args.tokens.now c.loop-terms.rest.now c.loop-terms.terms.items c.loop-terms.invariant.kept) c.in_err-term.ensures.reads))

pub predicate-returns-in_default-clause-reads : goal.predicate-returns-in_default-clause-reads
predicate-returns-in_default-clause-reads g t c =
    rw c.any_of.ensures (turn_found (predicate_terms c.args.tokens.now)
    (kept_end OR (SpellsTerm g.C.Phrase.spells) AfterAnd or_ends_and c.args.tokens.now c.loop-terms.rest.now c.loop-terms.terms.items c.loop-terms.invariant.kept
    c.in_ok-term.term c.in_ok-term.behind.now c.push.new.self.items c.in_ok-term.ensures.reads c.in_ok-push.ensures.items c.in_default.ensures))

pub predicate-loop-terms-preserved : goal.predicate-loop-terms-preserved
predicate-loop-terms-preserved g t c =
    let more = ap length c.in-Some.ensures in
    record {
      kept =
          kept_next OR (SpellsTerm g.C.Phrase.spells) AfterAnd or_ends_and c.args.tokens.now c.loop-terms.rest.now c.loop-terms.terms.items c.loop-terms.invariant.kept
          c.in_ok-term.term c.in_ok-term.behind.now c.push.new.self.items c.in_ok-term.ensures.reads c.in_ok-push.ensures.items
          c.in-Some.more.now c.in-Some.ensures;
      shorter = omega (arith, c.in_ok-term.ensures.shorter);
    }

pub predicate_in-returns-clause-reads : goal.predicate_in-returns-clause-reads
predicate_in-returns-clause-reads g t c =
    reads_closed rparen c.args.tokens.now paren_ends (λ s. s.now) c.in_ok-predicate.predicate c.in_ok-predicate.rest.now c.closed.result c.in_ok-predicate.ensures.reads c.closed.ensures

pub primary-predicate_in-requires : goal.primary-predicate_in-requires
primary-predicate_in-requires g t c κs outlives = (omega (arith, ap length c.in-Some.ensures), outlives)

pub predicate_in-predicate-requires : goal.predicate_in-predicate-requires
predicate_in-predicate-requires g t c κs outlives = (omega arith, outlives)

pub term-factor-requires : goal.term-factor-requires
term-factor-requires g t c κs outlives = (omega (arith, c.loop-factors.invariant.shorter), outlives)

pub term-loop-factors-init : goal.term-loop-factors-init
term-loop-factors-init g t c = record { kept = rw c.new-factors.ensures.items (kept_first AND (SpellsFactor g.C.Phrase.spells) Any (λ us. tt) c.args.tokens.now); shorter = omega arith }

pub predicate-term-requires : goal.predicate-term-requires
predicate-term-requires g t c κs outlives = (omega (arith, c.loop-terms.invariant.shorter), outlives)

pub predicate-loop-terms-init : goal.predicate-loop-terms-init
predicate-loop-terms-init g t c = record { kept = rw c.new-terms.ensures.items (kept_first OR (SpellsTerm g.C.Phrase.spells) AfterAnd or_ends_and c.args.tokens.now); shorter = omega arith }

pub term-returns-in_default-clause-shorter : goal.term-returns-in_default-clause-shorter
term-returns-in_default-clause-shorter g t c = omega (arith, c.in_ok-factor.ensures.shorter, c.loop-factors.invariant.shorter)

pub predicate-returns-in_default-clause-shorter : goal.predicate-returns-in_default-clause-shorter
predicate-returns-in_default-clause-shorter g t c = omega (arith, c.in_ok-term.ensures.shorter, c.loop-terms.invariant.shorter)

pub predicate_in-returns-in_err-predicate-clause-reads : goal.predicate_in-returns-in_err-predicate-clause-reads
predicate_in-returns-in_err-predicate-clause-reads g t c =
    let p = err_from_is_err_and c.from_residual.result c.from_residual.ensures.1 in
    rw (p.1, p.2) (err_closed rparen c.args.tokens.now paren_ends c.in_err-predicate.ensures.reads)

pub factor-primary-requires : goal.factor-primary-requires
factor-primary-requires g t c κs outlives = (omega (arith, ap length c.in-Some.ensures), outlives)

pub factor-primary-requires-2 : goal.factor-primary-requires-2
factor-primary-requires-2 g t c κs outlives = (omega arith, outlives)

pub factor-returns-in-Some-clause-shorter : goal.factor-returns-in-Some-clause-shorter
factor-returns-in-Some-clause-shorter g t c = omega (arith, ap length c.in-Some.ensures, c.in_ok-inner.ensures.shorter)

pub factor-returns-clause-shorter : goal.factor-returns-clause-shorter
factor-returns-clause-shorter g t c = c.primary-2.ensures.shorter

pub primary-returns-in-Some-clause-shorter : goal.primary-returns-in-Some-clause-shorter
primary-returns-in-Some-clause-shorter g t c =
    IfOk-weaker c.predicate_in.result _ _ (λ x less. omega (arith, less, ap length c.in-Some.ensures)) c.predicate_in.ensures.shorter

pub primary-returns-clause-shorter : goal.primary-returns-clause-shorter
primary-returns-clause-shorter g t c = c.in_ok-test.ensures.shorter

pub predicate_in-returns-clause-shorter : goal.predicate_in-returns-clause-shorter
predicate_in-returns-clause-shorter g t c =
    shorter_closed rparen c.args.tokens.now (λ s. s.now) c.in_ok-predicate.predicate c.in_ok-predicate.rest.now _ c.closed.result c.in_ok-predicate.ensures.shorter c.closed.ensures

pub predicate-loop-terms-smaller : goal.predicate-loop-terms-smaller
predicate-loop-terms-smaller g t c = omega (arith, ap length c.in-Some.ensures, c.in_ok-term.ensures.shorter)

pub term-loop-factors-smaller : goal.term-loop-factors-smaller
term-loop-factors-smaller g t c = omega (arith, ap length c.in-Some.ensures, c.in_ok-factor.ensures.shorter)
