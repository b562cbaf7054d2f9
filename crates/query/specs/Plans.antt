-- Plans: queries by the indexes of columns.
use Rattle.std.specs.Prelude.{ℕ, List, Option, Some, None, Result, Ok, Err, bytes_eq, map, option_map}
use Rattle.std.specs.List.{position_or_len}
use Rattle.cells.specs.Values.{Table}
use Rattle.cells.specs.declared.refused.Refused.{Refused}
use Rattle.cells.specs.declared.schema.Column.{Column}
use Rattle.query.specs.Checks.{fault_of}
use Rattle.query.specs.Headings.{heading}
use Rattle.query.specs.Resolving.{resolved}
use Rattle.query.specs.Sets.{resolved_sets}
use Rattle.query.specs.Trees.{PredicateTree}
use Rattle.query.specs.Values.{QueryTree, items_of}
use Rattle.query.specs.declared.item.Item.{Item}
use Rattle.query.specs.declared.item.Item.TheVariants as item
use Rattle.query.specs.declared.test.Test.{Test}

-- a plan: the items of the select list and behind them those of HAVING; the texts that a header has of the former; the
-- predicate of WHERE; the grouping sets as indexes that rise; and the predicate of HAVING over the indexes of its items,
-- which count from the first of these
pub record PlanTree : Type 0 where
  pub items : List (Item ℕ)
  pub headings : List (List ℕ)
  pub condition : Option (PredicateTree (Test ℕ))
  pub sets : List (List ℕ)
  pub having : Option (PredicateTree (Test ℕ))

-- the index of the column of the name
abbrev pub index_of : List Column → List ℕ → ℕ
index_of columns name = position_or_len (λ c. bytes_eq c.name name) columns

abbrev pub resolved_item : List Column → Item (List ℕ) → Item ℕ
resolved_item columns (item.Column n) = item.Column (index_of columns n)
resolved_item columns (item.Grouping ns) = item.Grouping (map (index_of columns) ns)
resolved_item columns item.CountRows = item.CountRows
resolved_item columns (item.Count n) = item.Count (index_of columns n)
resolved_item columns (item.CountDistinct n) = item.CountDistinct (index_of columns n)
resolved_item columns (item.Sum n) = item.Sum (index_of columns n)
resolved_item columns (item.Min n) = item.Min (index_of columns n)
resolved_item columns (item.Max n) = item.Max (index_of columns n)

-- the predicate of WHERE by the indexes of its columns
abbrev pub resolved_condition : List Column → PredicateTree (Test (List ℕ)) → PredicateTree (Test ℕ)
resolved_condition columns p = resolved index_of (λ cs name. cs) columns p

-- the plan of a query for a table
abbrev pub plan_of : Table → QueryTree → PlanTree
plan_of table query = record {
  items = map (resolved_item table.columns) (items_of query);
  headings = map heading query.items;
  condition = option_map (resolved_condition table.columns) query.condition;
  sets = resolved_sets table.columns query.groups;
  having = query.having.predicate;
}

-- the fault that is answered, and the plan where there is none
abbrev pub checked_by : Option Refused → PlanTree → Result PlanTree Refused
checked_by None plan = Ok plan
checked_by (Some fault) plan = Err fault

abbrev pub checked : Table → QueryTree → Result PlanTree Refused
checked table query = checked_by (fault_of table query) (plan_of table query)
