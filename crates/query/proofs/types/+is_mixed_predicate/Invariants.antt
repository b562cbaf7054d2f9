use Rattle.std.proofs.Common.{◌≡◌, drop}
use Rattle.std.specs.List.{list_any}
use Rattle.query.specs.Checks.{is_mixed}
use Rattle.query.specs.Names.{tests_of, tests_of_each}
use Rattle.query.specs.Trees.{predicates_of}
use Rattle.query.proofs.types.+is_mixed_predicate.Given as goal

abbrev pub invariant-loop-inner : goal.invariant-loop-inner
invariant-loop-inner g l =
    list_any (is_mixed (g.F.Finder.finds l.texts)) (tests_of l.predicate) ≡ list_any (is_mixed (g.F.Finder.finds l.texts)) (tests_of_each (predicates_of (drop l.inner-index l.inner-items)))
