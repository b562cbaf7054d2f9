-- The columns that a plan needs of its rows.
use Rattle.std.specs.Prelude.{ℕ, List, [], ◌∷◌, ◌++◌, Option, Some, None}
use Rattle.std.specs.List.{concat, flat_map}
use Rattle.aggs.specs.declared.acc.Kind.{Kind}
use Rattle.aggs.specs.declared.acc.Kind.TheVariants as kind
use Rattle.columns.specs.Columns.{ColumnsValue, HaveAll}
use Rattle.groups.specs.Accumulators.{aggregations_of}
use Rattle.groups.specs.declared.aggregation.Aggregation.{Aggregation}
use Rattle.query.specs.Naming.{columns_named}
use Rattle.query.specs.Plans.{PlanTree}
use Rattle.query.specs.Trees.{PredicateTree}
use Rattle.query.specs.declared.test.Test.{Test}

-- what an aggregate reads: its column, but COUNT(*) counts rows and reads none
abbrev pub read_by : Kind → ℕ → List ℕ
read_by kind.CountRows column = []
read_by kind.Count column = column ∷ []
read_by kind.CountDistinct column = column ∷ []
read_by kind.Sum column = column ∷ []
read_by kind.Min column = column ∷ []
read_by kind.Max column = column ∷ []

abbrev pub read_by_all : List Aggregation → List ℕ
read_by_all aggregations = flat_map (λ a. read_by a.kind a.column) aggregations

-- what WHERE names
abbrev pub named_by : Option (PredicateTree (Test ℕ)) → List ℕ
named_by None = []
named_by (Some p) = columns_named p

-- the columns of the grouping sets, of the aggregates and of WHERE
abbrev pub needed_by : PlanTree → List ℕ
needed_by plan = concat plan.sets ++ (read_by_all (aggregations_of plan.items) ++ named_by plan.condition)

-- all of them are at hand
abbrev pub Serve : PlanTree → ColumnsValue → Type 0
Serve plan columns = HaveAll (needed_by plan) columns
