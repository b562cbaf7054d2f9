use Rattle.std.proofs.Common.{◌≤◌, length, rules}
use Rattle.tests.proofs.OneRowLemmas.{may_meet}
use Rattle.tests.proofs.of_groups.report_of_two.Goals as goal

pub finished-requires : goal.finished-requires
finished-requires g c =
    let short : length c.args.sale.now ≤ 1 = search rules in
    may_meet c.args.plan.now c.args.sale.now short g.H.KeyHash-2.hash_of c.in_ok-first.first c.in_ok-second.second c.in_ok-first.ensures c.in_ok-second.ensures
