use Rattle.std.proofs.Common.{◌≡◌, ◌++◌, map, take}
use Rattle.query.specs.Plans.{resolved_item}
use Rattle.query.proofs.indexes.add_resolved.Given as goal

abbrev pub invariant-loop-item : goal.invariant-loop-item
invariant-loop-item l = l.made.items ≡ l.initial.made.items ++ map (resolved_item l.columns) (take l.item-index l.items)
