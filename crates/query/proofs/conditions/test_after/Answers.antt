use Rattle.std.proofs.Common.{ap, arith, length}
use Rattle.std.proofs.lemmas.Result.{IfOk-weaker, err_from_is_err_and}
use Rattle.query.proofs.Lists.{turn_err, turn_found, turn_reads}
use Rattle.query.proofs.TestsLemmas.{test_compare, test_is, test_range}
use Rattle.query.proofs.conditions.test_after.Goals as goal

pub returns-in_err-right-clause-reads : goal.returns-in_err-right-clause-reads
returns-in_err-right-clause-reads g c =
    let p = err_from_is_err_and c.from_residual.result c.from_residual.ensures.1 in
    rw (p.1, p.2) (turn_err (test_compare c.args.left c.args.tokens.now c.in-Some.comparison c.in-Some.more.now c.in-Some.ensures.exact) c.in_err-right.ensures.reads)

pub returns-in-Some-clause-reads : goal.returns-in-Some-clause-reads
returns-in-Some-clause-reads g c =
    turn_found (test_compare c.args.left c.args.tokens.now c.in-Some.comparison c.in-Some.more.now c.in-Some.ensures.exact) c.in_ok-right.ensures.reads

pub returns-in-Some-after_word-clause-reads : goal.returns-in-Some-after_word-clause-reads
returns-in-Some-after_word-clause-reads g c =
    turn_reads (λ x. (x.0, x.1.now)) c.null_test.result (test_is c.args.left c.args.tokens.now c.in-Some-after_word.more.now c.in-Some-after_word.ensures) c.null_test.ensures.reads

pub returns-clause-reads : goal.returns-clause-reads
returns-clause-reads g c =
    turn_reads (λ x. (x.0, x.1.now)) c.range_test.result (test_range c.args.left c.args.tokens.now c.in_default.ensures.exact c.in_default-after_word.ensures c.word_mark-negated.result.0 c.word_mark-negated.result.1.now c.word_mark-negated.ensures.marked) c.range_test.ensures.reads

pub returns-in-Some-clause-shorter : goal.returns-in-Some-clause-shorter
returns-in-Some-clause-shorter g c = omega (arith, c.in_ok-right.ensures.shorter, c.in-Some.ensures.shorter)

pub returns-in-Some-after_word-clause-shorter : goal.returns-in-Some-after_word-clause-shorter
returns-in-Some-after_word-clause-shorter g c =
    IfOk-weaker c.null_test.result _ _ (λ x fewer. omega (arith, fewer, ap length c.in-Some-after_word.ensures)) c.null_test.ensures.shorter

pub returns-clause-shorter : goal.returns-clause-shorter
returns-clause-shorter g c =
    IfOk-weaker c.range_test.result _ _ (λ x fewer. omega (arith, fewer, c.word_mark-negated.ensures.no_longer)) c.range_test.ensures.shorter
