-- The names of columns in a query.
use Rattle.std.specs.Prelude.{ℕ, List, [], ◌∷◌, ◌++◌, Option, Some, None}
use Rattle.std.specs.List.{flat_map}
use Rattle.query.specs.Trees.{ElementTree, Empty, OneUnit, Rollup, Cube, Sets, ElementTrees, NoElements, MoreElements, PredicateTree, Or, And, Not, Holds, PredicateTrees, NoPredicates, MorePredicates}
use Rattle.query.specs.Values.{QueryTree, items_of}
use Rattle.query.specs.declared.item.Item.{Item}
use Rattle.query.specs.declared.item.Item.TheVariants as item
use Rattle.query.specs.declared.test.Test.{Test}
use Rattle.query.specs.declared.test.Test.TheVariants.{Compare, IsNull, Between, In}
use Rattle.query.specs.declared.test.Operand.{Operand}
use Rattle.query.specs.declared.test.Operand.TheVariants as operand

abbrev pub item_names : Item (List ℕ) → List (List ℕ)
item_names (item.Column n) = n ∷ []
item_names (item.Grouping ns) = ns
item_names item.CountRows = []
item_names (item.Count n) = n ∷ []
item_names (item.CountDistinct n) = n ∷ []
item_names (item.Sum n) = n ∷ []
item_names (item.Min n) = n ∷ []
item_names (item.Max n) = n ∷ []

-- the leaves of a test, in the order of the text: its operands that are no literals
abbrev pub operand_leaves : {C : Type 0} → Operand C → List C
operand_leaves (operand.Column c) = c ∷ []
operand_leaves (operand.Literal l) = []

abbrev pub test_leaves : {C : Type 0} → Test C → List C
test_leaves (Compare a c b) = operand_leaves a ++ operand_leaves b
test_leaves (IsNull a not) = operand_leaves a
test_leaves (Between a low high not) = operand_leaves a ++ (operand_leaves low ++ operand_leaves high)
test_leaves (In a ls not) = operand_leaves a

abbrev mutual
  -- the tests of which a predicate is made
  pub tests_of : {T : Type 0} → PredicateTree T → List T
  tests_of (Or ps) = tests_of_each ps
  tests_of (And ps) = tests_of_each ps
  tests_of (Not p) = tests_of p
  tests_of (Holds t) = t ∷ []

  pub tests_of_each : {T : Type 0} → PredicateTrees T → List T
  tests_of_each NoPredicates = []
  tests_of_each (MorePredicates p ps) = tests_of p ++ tests_of_each ps

-- the leaves of a predicate, in the order of the text
abbrev pub leaves_of : {C : Type 0} → PredicateTree (Test C) → List C
leaves_of p = flat_map test_leaves (tests_of p)

-- the tests of a predicate that may be there
abbrev pub tests_where : {T : Type 0} → Option (PredicateTree T) → List T
tests_where None = []
tests_where (Some p) = tests_of p

abbrev mutual
  pub element_names : ElementTree → List (List ℕ)
  element_names Empty = []
  element_names (OneUnit u) = u
  element_names (Rollup us) = flat_map (λ u. u) us
  element_names (Cube us) = flat_map (λ u. u) us
  element_names (Sets es) = names_of_each es

  pub names_of_each : ElementTrees → List (List ℕ)
  names_of_each NoElements = []
  names_of_each (MoreElements e es) = element_names e ++ names_of_each es

-- the names in the items of the select list and of HAVING, in the predicate of WHERE and in the elements of GROUP BY
abbrev pub names_of : QueryTree → List (List ℕ)
names_of q = flat_map item_names (items_of q) ++ flat_map test_leaves (tests_where q.condition) ++ flat_map element_names q.groups.elements
