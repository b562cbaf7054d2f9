use Rattle.std.proofs.Common.{◌++◌}
use Rattle.crew.proofs.GatheredLemmas.{all_ends, all_folded, all_in_order, left_counted, left_may_join, none_left, none_left_ends}
use Rattle.groups.specs.Groups.{kept}
use Rattle.crew.proofs.gathering.finished.Goals as goal

pub returns-then-count-eq0-clause-folds : goal.returns-then-count-eq0-clause-folds
returns-then-count-eq0-clause-folds g c = λ rows it.
    let plan = c.args.plan.now in
    c.any_order.ensures.folds plan (kept plan.condition it.folded) (kept plan.condition rows) c.args.gathered.folding (none_left plan c.args.gathered rows it c.if-count-eq0.true) it.folds

pub returns-then-count-eq0-clause-end : goal.returns-then-count-eq0-clause-end
returns-then-count-eq0-clause-end g c = none_left_ends c.args.plan.now c.args.gathered c.requires.may

pub gather_rows-requires-clause-rows : goal.gather_rows-requires-clause-rows
gather_rows-requires-clause-rows g c = λ κs within. left_counted c.args.plan.now c.args.gathered c.requires.may

pub join-requires : goal.join-requires
join-requires g c = left_may_join c.args.plan.now c.args.gathered c.in_ok-more.more c.in_ok-more.ensures.folds c.requires.may

pub returns-clause-folds : goal.returns-clause-folds
returns-clause-folds g c = λ rows it.
    let plan = c.args.plan.now in
    c.any_order.ensures.folds plan (kept plan.condition (it.folded ++ it.left)) (kept plan.condition rows) c.in_ok-join.field-0 (all_in_order plan c.args.gathered rows it)
    (all_folded plan c.args.gathered c.in_ok-more.more c.in_ok-more.ensures.folds c.in_ok-join.field-0 rows (c.in_ok-join.ensures plan) it)

pub returns-clause-end : goal.returns-clause-end
returns-clause-end g c =
    let plan = c.args.plan.now in
    all_ends plan c.args.gathered c.in_ok-join.field-0 c.requires.may
    (all_folded plan c.args.gathered c.in_ok-more.more c.in_ok-more.ensures.folds c.in_ok-join.field-0 c.requires.may.rows (c.in_ok-join.ensures plan) c.requires.may.gathers)
