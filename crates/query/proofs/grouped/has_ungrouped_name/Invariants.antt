use Rattle.std.proofs.Common.{◌≡◌, drop, not}
use Rattle.std.specs.List.{list_any}
use Rattle.query.specs.Checks.{is_in_some}
use Rattle.query.specs.Sets.{grouping_sets}
use Rattle.query.proofs.grouped.has_ungrouped_name.Given as goal

abbrev pub invariant-loop-name : goal.invariant-loop-name
invariant-loop-name l =
    list_any (λ n. not (is_in_some (grouping_sets l.elements) n)) l.names ≡ list_any (λ n. not (is_in_some (grouping_sets l.elements) n)) (drop l.name-index l.names)
