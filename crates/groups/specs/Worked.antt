-- Worked reports: four sales, one of them of an unknown region, by ROLLUP of the region.
use Rattle.std.specs.Prelude.{ℕ, ℤ, pos, negsuc, List, [], ◌∷◌, codes, None, Some}
use Rattle.cells.specs.Values.{RowValue, Table}
use Rattle.cells.specs.declared.cell.Cell.{Cell}
use Rattle.cells.specs.declared.cell.Cell.TheVariants.{Null, Int, Text}
use Rattle.cells.specs.declared.schema.ColumnType.TheVariants as schema
use Rattle.cells.specs.declared.total.Total.{Total}
use Rattle.cells.specs.declared.total.Total.TheVariants as total
use Rattle.query.specs.Plans.{PlanTree}
use Rattle.query.specs.Trees.{And, Holds, MorePredicates, NoPredicates, PredicateTree}
use Rattle.query.specs.declared.item.Item.TheVariants as item
use Rattle.query.specs.declared.test.Comparison.{Comparison}
use Rattle.query.specs.declared.test.Comparison.TheVariants.{Greater, Less}
use Rattle.query.specs.declared.test.Literal.TheVariants as literal
use Rattle.query.specs.declared.test.Operand.TheVariants as operand
use Rattle.query.specs.declared.test.Test.{Test}
use Rattle.query.specs.declared.test.Test.TheVariants.{Compare}

abbrev sale : ℤ → Cell → Cell → RowValue
sale number region units = record { key = Int number; cells = Int number ∷ region ∷ units ∷ [] }

abbrev pub sales : List RowValue
sales = sale (pos 1) (Text (codes "north")) (Int (pos 10)) ∷ sale (pos 2) (Text (codes "north")) Null
    ∷ sale (pos 3) Null (Int (pos 5)) ∷ sale (pos 4) (Text (codes "south")) (Int (negsuc 1)) ∷ []

-- SELECT REGION, GROUPING(REGION), COUNT(*), COUNT(UNITS), SUM(UNITS) .. GROUP BY over the sets
abbrev pub by_sets : List (List ℕ) → PlanTree
by_sets sets = record {
  items = item.Column 1 ∷ item.Grouping (1 ∷ []) ∷ item.CountRows ∷ item.Count 2 ∷ item.Sum 2 ∷ [];
  headings = codes "REGION" ∷ codes "GROUPING(REGION)" ∷ codes "COUNT(*)" ∷ codes "COUNT(UNITS)" ∷ codes "SUM(UNITS)" ∷ [];
  condition = None;
  sets = sets;
  having = None;
}

-- ROLLUP(REGION)
abbrev pub by_region : PlanTree
by_region = by_sets ((1 ∷ []) ∷ [] ∷ [])

abbrev pub line : Total → ℕ → ℕ → ℕ → Total → List Total
line region mark rows cells sum = region ∷ total.Int (pos mark) ∷ total.Int (pos rows) ∷ total.Int (pos cells) ∷ sum ∷ []

-- the unknown region, then the others, then all of them
abbrev pub sales_by_region : List (List Total)
sales_by_region = line total.Null 0 1 1 (total.Int (pos 5)) ∷ line (total.Text (codes "north")) 0 2 1 (total.Int (pos 10))
    ∷ line (total.Text (codes "south")) 0 1 1 (total.Int (negsuc 1)) ∷ line total.Null 1 4 3 (total.Int (pos 13)) ∷ []

-- over no rows: the row of the empty set alone
abbrev pub nothing_by_region : List (List Total)
nothing_by_region = line total.Null 1 0 0 total.Null ∷ []

-- SELECT GROUPING(REGION, UNITS), COUNT(*) .. GROUP BY GROUPING SETS ((REGION, UNITS), REGION, UNITS, ())
abbrev pub by_two : PlanTree
by_two = record {
  items = item.Grouping (1 ∷ 2 ∷ []) ∷ item.CountRows ∷ [];
  headings = codes "GROUPING(REGION, UNITS)" ∷ codes "COUNT(*)" ∷ [];
  condition = None;
  having = None;
  sets = (1 ∷ 2 ∷ []) ∷ (1 ∷ []) ∷ (2 ∷ []) ∷ [] ∷ [];
}

abbrev marked : ℕ → ℕ → List Total
marked marks rows = total.Int (pos marks) ∷ total.Int (pos rows) ∷ []

-- four groups of both columns; by the region alone UNITS is marked, in the lowest digit; by the units alone REGION is; then both
abbrev pub sales_by_two : List (List Total)
sales_by_two = marked 0 1 ∷ marked 0 1 ∷ marked 0 1 ∷ marked 0 1 ∷ marked 1 1 ∷ marked 1 2 ∷ marked 1 1
    ∷ marked 2 1 ∷ marked 2 1 ∷ marked 2 1 ∷ marked 2 1 ∷ marked 3 4 ∷ []

abbrev compares : ℕ → Comparison → ℕ → PredicateTree (Test ℕ)
compares index comparison number = Holds (Compare (operand.Column index) comparison (operand.Literal (literal.Int (pos number))))

-- SELECT REGION, SUM(UNITS) .. GROUP BY ROLLUP(REGION) HAVING SUM(UNITS) > 0 AND COUNT(*) < 4
abbrev pub by_having : PlanTree
by_having = record {
  items = item.Column 1 ∷ item.Sum 2 ∷ item.Sum 2 ∷ item.CountRows ∷ [];
  headings = codes "REGION" ∷ codes "SUM(UNITS)" ∷ [];
  condition = None;
  sets = (1 ∷ []) ∷ [] ∷ [];
  having = Some (And (MorePredicates (compares 0 Greater 0) (MorePredicates (compares 1 Less 4) NoPredicates)));
}

-- the sum of the south is below 0, and all of them are four
abbrev pub sales_by_having : List (List Total)
sales_by_having = (total.Null ∷ total.Int (pos 5) ∷ []) ∷ (total.Text (codes "north") ∷ total.Int (pos 10) ∷ []) ∷ []

-- the table of these sales
abbrev pub sales_table : Table
sales_table = record {
  name = codes "SALES";
  columns = record { name = codes "NUMBER"; kind = schema.Int } ∷ record { name = codes "REGION"; kind = schema.Text } ∷ record { name = codes "UNITS"; kind = schema.Int } ∷ [];
  key = 0;
}

-- what the text asks of them, of which the sums are 5, 10, -2 and 13: the unknown region has few units, and the last group is all
abbrev pub sales_of_regions : List (List Total)
sales_of_regions = (total.Null ∷ total.Int (pos 5) ∷ []) ∷ (total.Null ∷ total.Int (pos 13) ∷ []) ∷ []
