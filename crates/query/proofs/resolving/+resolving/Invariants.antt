use Rattle.std.proofs.Common.{◌≡◌, ◌≤◌, ◌+◌, ◌*◌, ◌++◌}
use Rattle.std.specs.List.{flat_map, fold}
use Rattle.query.specs.Names.{test_leaves, tests_of_each}
use Rattle.query.specs.Resolving.{resolved_each}
use Rattle.query.specs.Trees.{predicate_size, predicates_of, predicates_size}
use Rattle.query.proofs.ResolvingLemmas.{resolved_list}
use Rattle.query.proofs.resolving.+resolving.Given as goal

abbrev pub decreases-resolved : goal.decreases-resolved
decreases-resolved g l = 2 * predicate_size l.predicate + 1

abbrev pub decreases-resolved_each : goal.decreases-resolved_each
decreases-resolved_each g l = 2 * predicates_size (predicates_of l.predicates.items)

abbrev pub invariant-resolved_each-loop-predicate : goal.invariant-resolved_each-loop-predicate
invariant-resolved_each-loop-predicate g l = record {
  is : resolved_each g.R.Resolver.index g.R.Resolver.after l.initial.resolver (predicates_of l.fn.predicates.items) ≡ predicates_of (l.made.items ++ resolved_list g.R.Resolver.index g.R.Resolver.after l.resolver l.predicate-iterator.rest.items);
  after : fold g.R.Resolver.after l.initial.resolver (flat_map test_leaves (tests_of_each (predicates_of l.fn.predicates.items))) ≡ fold g.R.Resolver.after l.resolver (flat_map test_leaves (tests_of_each (predicates_of l.predicate-iterator.rest.items)));
  left : predicates_size (predicates_of l.predicate-iterator.rest.items) ≤ predicates_size (predicates_of l.fn.predicates.items);
}
