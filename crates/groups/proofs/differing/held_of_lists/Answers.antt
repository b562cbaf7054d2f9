use Rattle.std.proofs.Common.{ap, arith, map}
use Rattle.std.proofs.lemmas.Grind.{common_steps}
use Rattle.aggs.specs.Accs.{acc_of}
use Rattle.aggs.specs.declared.acc.Kind.TheVariants.{CountDistinct}
use Rattle.columns.specs.Columns.{decoded}
use Rattle.groups.specs.Differing.{lists_of}
use Rattle.groups.proofs.differing.held_of_lists.Goals as goal

pub loop-codes-init : goal.loop-codes-init
loop-codes-init g c =
    rw c.in_ok-all.ensures.items (ap (λ l. map (λ codes. acc_of CountDistinct (decoded c.args.column.now.cells codes)) (lists_of l)) c.into_iter-codes-iterator.ensures.into_iter_gives.0)

pub loop-codes-preserved : goal.loop-codes-preserved
loop-codes-preserved g c = grind (arith, common_steps)
