-- HAVING (ISO/IEC 9075-2:1999, 7.10 <having clause>): a search condition on groups, whose leaves are items. A query has the items
-- taken out of it, in the order of the text, and in their stead their indexes among them.
use Rattle.std.specs.Prelude.{ℕ, List, [], ◌∷◌, ◌++◌, Some, length}
use Rattle.cells.specs.declared.total.Total.{Total}
use Rattle.query.specs.Names.{leaves_of}
use Rattle.query.specs.Resolving.{resolved}
use Rattle.query.specs.Trees.{PredicateTree}
use Rattle.query.specs.Truth.{truth_by}
use Rattle.query.specs.Values.{HavingTree}
use Rattle.query.specs.declared.item.Item.{Item}
use Rattle.query.specs.declared.test.Test.{Test}
use Rattle.query.specs.declared.truth.Truth.{Truth}

-- what HAVING says of a group, by the value of each item for the group
abbrev pub having_truth : (Item (List ℕ) → Total) → PredicateTree (Test (Item (List ℕ))) → Truth
having_truth value p = truth_by value p

-- the index of a leaf: how many stand before it
abbrev pub count_before : {C : Type 0} → List C → C → ℕ
count_before before c = length before

abbrev pub with_leaf : {C : Type 0} → List C → C → List C
with_leaf before c = before ++ c ∷ []

abbrev pub numbered : {C : Type 0} → PredicateTree (Test C) → PredicateTree (Test ℕ)
numbered p = resolved count_before with_leaf [] p

-- HAVING of a predicate over items
abbrev pub having_of : PredicateTree (Test (Item (List ℕ))) → HavingTree
having_of p = record { items = leaves_of p; predicate = Some (numbered p) }
