-- A query's items for a group, by the names that stand in them.
use Rattle.std.specs.Prelude.{ℕ, List, [], ◌∷◌, if◌then◌else◌, map}
use Rattle.cells.specs.Values.{RowValue, Table}
use Rattle.cells.specs.declared.cell.Cell.{Cell}
use Rattle.cells.specs.declared.total.Total.{Total}
use Rattle.groups.specs.Groups.{is_true, item_value}
use Rattle.query.specs.Having.{having_truth}
use Rattle.query.specs.Plans.{resolved_item}
use Rattle.query.specs.Trees.{PredicateTree}
use Rattle.query.specs.Values.{QueryTree}
use Rattle.query.specs.declared.item.Item.{Item}
use Rattle.query.specs.declared.test.Test.{Test}

-- the value of an item for a group: a column of the grouping set by the group's cell, GROUPING by its bits, an aggregate by its
-- total over the group's rows
abbrev pub named_value : Table → List ℕ → List Cell → List RowValue → Item (List ℕ) → Total
named_value table set tuple group i = item_value set tuple group (resolved_item table.columns i)

-- what a report has of a group: the values of the select list, where HAVING is true of the group
abbrev pub shown_where : Table → QueryTree → PredicateTree (Test (Item (List ℕ))) → List ℕ → List Cell → List RowValue → List (List Total)
shown_where table query having set tuple group =
    if is_true (having_truth (named_value table set tuple group) having) then map (named_value table set tuple group) query.items ∷ [] else []
