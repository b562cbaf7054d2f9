use Rattle.std.proofs.Common.{arith, refl}
use Rattle.crew.proofs.GatheredLemmas.{counts_fit, gathers_both, they_may_join}
use Rattle.crew.proofs.gathered.Gathered.with.Goals as goal

pub join-requires : goal.join-requires
join-requires g c = they_may_join c.args.self c.args.other c.requires

pub overflow_add-result : goal.overflow_add-result
overflow_add-result g c = omega (arith, counts_fit c.args.self c.args.other c.requires)

pub returns : goal.returns
returns g c = λ plan rows more one two.
    gathers_both plan c.args.self c.args.other _ rows more (c.in_ok-folding.ensures plan) c.in_ok-columns.ensures.held c.in_ok-columns.ensures.has refl one two
