use Rattle.std.proofs.Common.{◌≡◌, take}
use Rattle.groups.specs.Accumulators.{aggregations_of}
use Rattle.groups.proofs.aggregation.aggregations.Given as goal

abbrev pub invariant-loop-item : goal.invariant-loop-item
invariant-loop-item l = l.aggregations.items ≡ aggregations_of (take l.item-index l.items)
