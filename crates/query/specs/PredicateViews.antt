-- The tree of a predicate, by its form.
use Rattle.query.specs.Trees.{PredicateTree, Or, And, Not, Holds, predicates_of}
use Rattle.query.specs.declared.predicate.PredicateForm.{PredicateForm}
use Rattle.query.specs.declared.predicate.PredicateForm.TheVariants as form
use Rattle.query.specs.declared.test.Test.{Test}

abbrev pub predicate_tree : {C : Type 0} → PredicateForm C → PredicateTree (Test C)
predicate_tree (form.Or ps) = Or (predicates_of ps.items)
predicate_tree (form.And ps) = And (predicates_of ps.items)
predicate_tree (form.Not p) = Not p.value
predicate_tree (form.Test t) = Holds t
