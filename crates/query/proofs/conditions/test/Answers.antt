use Rattle.std.proofs.Common.{arith}
use Rattle.std.proofs.lemmas.Result.{IfOk-weaker}
use Rattle.query.proofs.Lists.{split_found, turn_reads}
use Rattle.query.proofs.TestsLemmas.{test_split}
use Rattle.query.proofs.conditions.test.Goals as goal

pub returns-clause-reads : goal.returns-clause-reads
returns-clause-reads g c =
    turn_reads (λ x. (x.0, x.1.now)) c.test_after.result (split_found (test_split c.args.tokens.now) c.in_ok-left.ensures.reads) c.test_after.ensures.reads

pub returns-clause-shorter : goal.returns-clause-shorter
returns-clause-shorter g c =
    IfOk-weaker c.test_after.result _ _ (λ x fewer. omega (arith, fewer, c.in_ok-left.ensures.shorter)) c.test_after.ensures.shorter
