use Rattle.std.proofs.Common.{[], arith}
use Rattle.groups.proofs.partial.Partial.empty.Goals as goal

pub into_partial-requires : goal.into_partial-requires
into_partial-requires g c = record { plan = c.args.plan.now; taken = []; folds = c.in_ok-folding.ensures; few = omega arith }

pub returns : goal.returns
returns g c = c.into_partial.ensures c.args.plan.now [] c.in_ok-folding.ensures
