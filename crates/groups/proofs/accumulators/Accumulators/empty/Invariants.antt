use Rattle.std.proofs.Common.{◌≡◌, [], map, take}
use Rattle.aggs.specs.Accs.{acc_of}
use Rattle.groups.proofs.accumulators.Accumulators.empty.Given as goal

abbrev pub invariant-loop-aggregation : goal.invariant-loop-aggregation
invariant-loop-aggregation g l = l.accs.items ≡ map (λ a. acc_of a.kind []) (take l.aggregation-index l.aggregations)
