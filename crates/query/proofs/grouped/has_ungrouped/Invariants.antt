use Rattle.std.proofs.Common.{◌≡◌, drop}
use Rattle.std.specs.List.{list_any}
use Rattle.query.specs.Checks.{is_ungrouped}
use Rattle.query.specs.Sets.{grouping_sets}
use Rattle.query.proofs.grouped.has_ungrouped.Given as goal

abbrev pub invariant-loop-item : goal.invariant-loop-item
invariant-loop-item l = list_any (is_ungrouped (grouping_sets l.elements)) l.items ≡ list_any (is_ungrouped (grouping_sets l.elements)) (drop l.item-index l.items)
