use Rattle.std.proofs.Common.{◌∙◌, ap}
use Rattle.aggs.proofs.DifferingLemmas.{held}
use Rattle.aggs.proofs.distinct.CountDistinctAggregate.empty.Goals as goal

pub returns : goal.returns
returns g c = c.holding.ensures ∙ ap held c.empty.ensures
