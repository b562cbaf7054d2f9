use Rattle.std.proofs.Common.{◌≡◌, drop}
use Rattle.std.specs.List.{flat_map, fold}
use Rattle.std.specs.Prelude.{nat_eq}
use Rattle.query.specs.Different.{with_new}
use Rattle.query.specs.Names.{leaves_of, test_leaves, tests_of_each}
use Rattle.query.specs.Trees.{predicates_of}
use Rattle.query.proofs.naming.+add_columns.Given as goal

-- what is there, with the columns of what is left, is what the call leaves
abbrev pub invariant-loop-inner : goal.invariant-loop-inner
invariant-loop-inner l =
    fold (with_new nat_eq) l.initial.columns.items (leaves_of l.predicate) ≡ fold (with_new nat_eq) l.columns.items (flat_map test_leaves (tests_of_each (predicates_of (drop l.inner-index l.inner-items))))
