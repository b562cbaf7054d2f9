use Rattle.std.proofs.Common.{◌≡◌, ◌++◌, take}
use Rattle.groups.specs.Needed.{read_by_all}
use Rattle.groups.proofs.needed.add_read.Given as goal

abbrev pub invariant-loop-aggregation : goal.invariant-loop-aggregation
invariant-loop-aggregation l = l.needed.items ≡ l.fn.needed.items ++ read_by_all (take l.aggregation-index l.aggregations)
