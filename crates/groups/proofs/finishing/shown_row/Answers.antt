use Rattle.groups.proofs.FinishLemmas.{group_shown}
use Rattle.groups.proofs.finishing.shown_row.Goals as goal

pub returns : goal.returns
returns g c =
    group_shown c.args.set.now c.args.tuple.now c.args.plan.now c.args.accumulators.now c.in_ok-stays.stays c.in_ok-stays.ensures c.in_ok-row.row c.shown_items.result.now
    c.if-not-stays.false c.shown_items.ensures.items c.in_ok-row.ensures
