use Rattle.std.proofs.Common.{ap, arith, length}
use Rattle.std.proofs.lemmas.Result.{IfOk-weaker, err_from_is_err_and}
use Rattle.query.proofs.Lists.{turn_err, turn_found}
use Rattle.query.proofs.TestsLemmas.{range_list}
use Rattle.query.proofs.conditions.range_test.Goals as goal

pub returns-in-Some-clause-reads : goal.returns-in-Some-clause-reads
returns-in-Some-clause-reads g c = rw c.in-Some.ensures c.between_test.ensures.reads

pub returns-in_err-literals-clause-reads : goal.returns-in_err-literals-clause-reads
returns-in_err-literals-clause-reads g c =
    let p = err_from_is_err_and c.from_residual.result c.from_residual.ensures.1 in
    rw (p.1, p.2) (turn_err (range_list c.args.left c.args.tokens.now c.args.negated c.in-Some-after_call.more.now c.in-Some-after_call.ensures) c.in_err-literals.ensures.reads)

pub returns-clause-reads : goal.returns-clause-reads
returns-clause-reads g c =
    rw c.new.ensures (turn_found (range_list c.args.left c.args.tokens.now c.args.negated c.in-Some-after_call.more.now c.in-Some-after_call.ensures) c.in_ok-literals.ensures.reads)

pub returns-in-Some-clause-shorter : goal.returns-in-Some-clause-shorter
returns-in-Some-clause-shorter g c =
    IfOk-weaker c.between_test.result _ _ (λ x fewer. omega (arith, fewer, ap length c.in-Some.ensures)) c.between_test.ensures.shorter

pub returns-clause-shorter : goal.returns-clause-shorter
returns-clause-shorter g c = omega (arith, c.in_ok-literals.ensures.shorter, ap length c.in-Some-after_call.ensures)
