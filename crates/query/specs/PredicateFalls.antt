-- Each predicate that stands in a predicate is smaller than it, so that a recursion over predicates ends.
use Rattle.std.specs.Prelude.{◌+◌, ◌≤◌, max, List, [], ◌∷◌}
use Rattle.std.proofs.Common.{arith}
use denote.Param.Weighed.{most}
use Rattle.query.specs.Trees.{PredicateTree, predicates_of, predicate_size, predicates_size}
use Rattle.query.specs.PredicateViews.{predicate_tree}
use Rattle.query.specs.declared.predicate.PredicateForm.{PredicateForm}
use Rattle.query.specs.declared.predicate.PredicateForm.TheVariants as form
use Rattle.query.specs.declared.predicate.Predicate.TheDeep.{deep-PredicateForm}

most_le-predicates_of : {T : Type 0} → (ps : List (PredicateTree T)) → most (λ p. predicate_size p + 1) ps ≤ predicates_size (predicates_of ps)
most_le-predicates_of [] = omega arith
most_le-predicates_of (p ∷ ps) = omega (arith, most_le-predicates_of ps)

pub predicate_falls : {C : Type 0} → (x : PredicateForm C) → max (deep-PredicateForm C x) 0 ≤ predicate_size (predicate_tree x)
predicate_falls (form.Or ps) = omega (arith, most_le-predicates_of ps.items)
predicate_falls (form.And ps) = omega (arith, most_le-predicates_of ps.items)
predicate_falls (form.Not p) = omega arith
predicate_falls (form.Test t) = omega arith
