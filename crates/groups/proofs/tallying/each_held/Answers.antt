use Rattle.std.proofs.Common.{ap, arith, map}
use Rattle.std.proofs.lemmas.Grind.{common_steps}
use Rattle.groups.proofs.tallying.each_held.Goals as goal

pub loop-acc-init : goal.loop-acc-init
loop-acc-init g c = rw c.in_ok-all.ensures.items (ap (λ l. map g.A.OfKind.acc l) c.into_iter-acc-iterator.ensures.into_iter_gives.0)

pub loop-acc-preserved : goal.loop-acc-preserved
loop-acc-preserved g c = grind (arith, common_steps)
