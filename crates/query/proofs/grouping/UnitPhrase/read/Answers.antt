use Rattle.std.proofs.Common.{ap, arith, length}
use Rattle.std.proofs.lemmas.Result.{err_from_is_err_and}
use Rattle.query.proofs.Lists.{turn_err, turn_found}
use Rattle.query.proofs.Units.{unit_one, unit_several}
use Rattle.query.proofs.grouping.UnitPhrase.read.Goals as goal

pub returns-in-Some-clause-reads : goal.returns-in-Some-clause-reads
returns-in-Some-clause-reads c =
    rw c.new.ensures (turn_found (unit_several c.args.tokens.now c.in-Some.more.now c.in-Some.ensures) c.in_ok-names.ensures.reads)

pub returns-clause-reads : goal.returns-clause-reads
returns-clause-reads c =
    rw c.in_ok-one.ensures (turn_found (unit_one c.args.tokens.now c.in_default.ensures) c.in_ok-name.ensures.reads)

pub returns-in-Some-clause-shorter : goal.returns-in-Some-clause-shorter
returns-in-Some-clause-shorter c = omega (arith, ap length c.in-Some.ensures, c.in_ok-names.ensures.shorter)

pub returns-clause-shorter : goal.returns-clause-shorter
returns-clause-shorter c = c.in_ok-name.ensures.shorter

pub returns-in_err-names-clause-reads : goal.returns-in_err-names-clause-reads
returns-in_err-names-clause-reads c =
    let p = err_from_is_err_and c.from_residual.result c.from_residual.ensures.1 in
    rw (p.1, p.2) (turn_err (unit_several c.args.tokens.now c.in-Some.more.now c.in-Some.ensures) c.in_err-names.ensures.reads)

pub returns-in_err-name-clause-reads : goal.returns-in_err-name-clause-reads
returns-in_err-name-clause-reads c =
    let p = err_from_is_err_and c.from_residual-in_err-name.result c.from_residual-in_err-name.ensures.1 in
    rw (p.1, p.2) (turn_err (unit_one c.args.tokens.now c.in_default.ensures) c.in_err-name.ensures.reads)
