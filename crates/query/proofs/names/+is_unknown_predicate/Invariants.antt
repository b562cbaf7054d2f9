use Rattle.std.proofs.Common.{◌≡◌, drop}
use Rattle.std.specs.List.{flat_map}
use Rattle.query.specs.Checks.{has_unknown}
use Rattle.query.specs.Names.{test_leaves, tests_of, tests_of_each}
use Rattle.query.specs.Trees.{predicates_of}
use Rattle.query.proofs.names.+is_unknown_predicate.Given as goal

abbrev pub invariant-loop-inner : goal.invariant-loop-inner
invariant-loop-inner l =
    has_unknown l.columns (flat_map test_leaves (tests_of l.predicate))
    ≡ has_unknown l.columns (flat_map test_leaves (tests_of_each (predicates_of (drop l.inner-index l.inner-items))))
