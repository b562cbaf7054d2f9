use Rattle.std.proofs.Common.{ap, arith, map}
use Rattle.std.proofs.lemmas.Grind.{common_steps}
use Rattle.aggs.specs.Accs.{acc_of}
use Rattle.aggs.specs.declared.acc.Kind.TheVariants.{CountDistinct}
use Rattle.groups.specs.Differing.{lists_of}
use Rattle.groups.proofs.differing.all_held.Goals as goal

pub loop-list-init : goal.loop-list-init
loop-list-init g c = rw c.in_ok-all.ensures.items (ap (λ l. map (acc_of CountDistinct) (lists_of l)) c.into_iter-list-iterator.ensures.into_iter_gives.0)

pub loop-list-preserved : goal.loop-list-preserved
loop-list-preserved g c = grind (arith, common_steps)
