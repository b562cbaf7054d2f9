use Rattle.std.proofs.Common.{refl}
use Rattle.crew.proofs.GatheredLemmas.{gathers_folded, left_counted, left_may_join}
use Rattle.crew.proofs.gathered.Gathered.folded.Goals as goal

pub of_columns-requires-clause-rows : goal.of_columns-requires-clause-rows
of_columns-requires-clause-rows g c = left_counted c.args.plan.now c.args.self c.requires

pub join-requires : goal.join-requires
join-requires g c = left_may_join c.args.plan.now c.args.self c.in_ok-more.more c.in_ok-more.ensures c.requires

pub returns : goal.returns
returns g c = λ rows it.
    gathers_folded c.args.plan.now c.args.self c.in_ok-more.more c.in_ok-more.ensures _ rows (c.in_ok-folding.ensures c.args.plan.now) c.in_ok-columns.ensures.none c.in_ok-columns.ensures.serve refl it
