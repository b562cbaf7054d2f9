use Rattle.std.proofs.Common.{ap, arith, length}
use Rattle.std.proofs.lemmas.Result.{err_from_is_err_and}
use Rattle.query.specs.Grammar.{comma}
use Rattle.query.specs.Reading.{Any}
use Rattle.query.proofs.Lists.{kept_end, kept_first, kept_next, kept_none, part_err}
use Rattle.query.proofs.phrases.list.Goals as goal

pub returns-in_default-clause-reads : goal.returns-in_default-clause-reads
returns-in_default-clause-reads g c =
    kept_end comma g.P.Phrase.spells Any (λ us. tt) c.args.tokens.now c.loop-found.rest.now c.loop-found.found.items c.loop-found.invariant.kept
    c.in_ok-phrase.phrase c.in_ok-phrase.behind.now c.push.new.self.items c.in_ok-phrase.ensures.reads c.in_ok-push.ensures.items c.in_default.ensures

pub loop-found-preserved : goal.loop-found-preserved
loop-found-preserved g c =
    let more = ap length c.in-Some.ensures in
    record {
      kept =
          kept_next comma g.P.Phrase.spells Any (λ us. tt) c.args.tokens.now c.loop-found.rest.now c.loop-found.found.items c.loop-found.invariant.kept
          c.in_ok-phrase.phrase c.in_ok-phrase.behind.now c.push.new.self.items c.in_ok-phrase.ensures.reads c.in_ok-push.ensures.items
          c.in-Some.more.now c.in-Some.ensures;
      shorter = omega (arith, c.in_ok-phrase.ensures.shorter);
    }

pub loop-found-init : goal.loop-found-init
loop-found-init g c = record { kept = rw c.new-found.ensures.items (kept_first comma g.P.Phrase.spells Any (λ us. tt) c.args.tokens.now); shorter = omega arith }

pub loop-found-smaller : goal.loop-found-smaller
loop-found-smaller g c = omega (arith, ap length c.in-Some.ensures, c.in_ok-phrase.ensures.shorter)

pub returns-in_err-phrase-clause-reads : goal.returns-in_err-phrase-clause-reads
returns-in_err-phrase-clause-reads g c =
    let p = err_from_is_err_and c.from_residual.result c.from_residual.ensures.1 in
    rw (p.1, p.2) (part_err (kept_none comma g.P.Phrase.spells Any (λ us. tt) c.args.tokens.now c.loop-found.rest.now c.loop-found.found.items c.loop-found.invariant.kept) c.in_err-phrase.ensures.reads)

pub returns-in_default-clause-shorter : goal.returns-in_default-clause-shorter
returns-in_default-clause-shorter g c = omega (arith, c.in_ok-phrase.ensures.shorter, c.loop-found.invariant.shorter)
