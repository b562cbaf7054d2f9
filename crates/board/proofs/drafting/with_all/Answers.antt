use Rattle.std.proofs.Common.{◌<◌, arith, subst}
use Rattle.std.specs.FinMap.{len}
use Rattle.board.proofs.drafting.with_all.Goals as goal

pub returns-then-len-limit-clause-full : goal.returns-then-len-limit-clause-full
returns-then-len-limit-clause-full g c = λ _.
    let over : c.args.limit < len c.in_ok-all.all = omega (arith, c.if-len-limit.true, c.len.ensures) in
    subst (λ m. c.args.limit < len m) c.in_ok-all.ensures over

pub returns-clause-laid : goal.returns-clause-laid
returns-clause-laid g c = c.in_ok-all.ensures
