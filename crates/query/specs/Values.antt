-- What clauses see of a query.
use Rattle.std.specs.Prelude.{◌≡◌, ℕ, Bool, true, false, ◌||◌, List, [], ◌∷◌, ◌++◌, Option, None, filter, length, nat_lt}
use Rattle.std.specs.List.{list_any}
use Rattle.query.specs.Limits.{grouping_limit, item_limit}
use Rattle.query.specs.Trees.{ElementTree, Empty, OneUnit, Rollup, Cube, Sets, ElementTrees, NoElements, MoreElements, PredicateTree}
use Rattle.query.specs.declared.item.Item.{Item}
use Rattle.query.specs.declared.item.Item.TheVariants as item
use Rattle.query.specs.declared.test.Test.{Test}

-- GROUP BY: whether DISTINCT stands in it, and its elements
pub record GroupsTree : Type 0 where
  pub distinct : Bool
  pub elements : List ElementTree

-- what stands for GROUP BY where there is none: the element () alone
abbrev pub all_rows : GroupsTree
all_rows = record { distinct = false; elements = Empty ∷ [] }

-- HAVING: the items that its predicate names, in the order of the text, and the predicate over their indexes among them
pub record HavingTree : Type 0 where
  pub items : List (Item (List ℕ))
  pub predicate : Option (PredicateTree (Test ℕ))

-- what stands for HAVING where there is none
abbrev pub no_having : HavingTree
no_having = record { items = []; predicate = None }

-- what follows the predicate of WHERE
pub record GroupedTree : Type 0 where
  pub groups : GroupsTree
  pub having : HavingTree

-- what follows FROM
pub record FromTree : Type 0 where
  pub table : List ℕ
  pub condition : Option (PredicateTree (Test (List ℕ)))
  pub grouped : GroupedTree

-- the table, and what follows it
abbrev pub from_tree : List ℕ → Option (PredicateTree (Test (List ℕ))) × GroupedTree → FromTree
from_tree table x = record { table = table; condition = x.0; grouped = x.1 }

-- a query: names stand as their bytes, in upper case
pub record QueryTree : Type 0 where
  pub items : List (Item (List ℕ))
  pub table : List ℕ
  pub condition : Option (PredicateTree (Test (List ℕ)))
  pub groups : GroupsTree
  pub having : HavingTree

-- the query of these items, and of what follows FROM
abbrev pub query_tree : List (Item (List ℕ)) → FromTree → QueryTree
query_tree items from = record { items = items; table = from.table; condition = from.condition; groups = from.grouped.groups; having = from.grouped.having }

-- the items of the select list, and behind them those of HAVING
abbrev pub items_of : QueryTree → List (Item (List ℕ))
items_of q = q.items ++ q.having.items

-- ---- limits

-- GROUPING of more columns than the limit
abbrev pub is_long : {C : Type 0} → Item C → Bool
is_long (item.Grouping cs) = nat_lt grouping_limit (length cs)
is_long i = false

-- an aggregate (6.16 of the standard), and not a column alone or GROUPING
abbrev pub is_aggregate : {C : Type 0} → Item C → Bool
is_aggregate (item.Column c) = false
is_aggregate (item.Grouping cs) = false
is_aggregate i = true

-- the select list has more items than the limit, HAVING names more aggregates, or a GROUPING is long
abbrev pub has_too_many : QueryTree → Bool
has_too_many q = nat_lt item_limit (length q.items) || nat_lt item_limit (length (filter is_aggregate q.having.items)) || list_any is_long (items_of q)

-- ---- elements

abbrev pub HasElements : ElementTrees → Type 0
HasElements NoElements = ⊥
HasElements (MoreElements e es) = Unit {0}

-- no GROUPING SETS in the element is without elements
abbrev mutual
  pub IsFilled : ElementTree → Type 0
  IsFilled Empty = Unit {0}
  IsFilled (OneUnit u) = Unit {0}
  IsFilled (Rollup us) = Unit {0}
  IsFilled (Cube us) = Unit {0}
  IsFilled (Sets es) = HasElements es × IsEachFilled es

  pub IsEachFilled : ElementTrees → Type 0
  IsEachFilled NoElements = Unit {0}
  IsEachFilled (MoreElements e es) = IsFilled e × IsEachFilled es

abbrev pub AreFilled : List ElementTree → Type 0
AreFilled [] = Unit {0}
AreFilled (e ∷ es) = IsFilled e × AreFilled es

-- what holds of each query that was read: no GROUPING SETS is without elements, and no GROUPING is long
pub record IsKept (q : QueryTree) : Type 0 where
  pub filled : AreFilled q.groups.elements
  pub short : list_any is_long (items_of q) ≡ false
