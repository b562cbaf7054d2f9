-- Worked examples: a table of three columns, elements of GROUP BY over them, and their grouping sets as indexes;
-- predicates of each truth, and two of them with AND or OR between; the texts of queries, and their trees.
use Rattle.std.specs.Prelude.{ℕ, List, [], ◌∷◌, None, Some, codes, false, pos, true}
use Rattle.cells.specs.declared.schema.Column.{Column}
use Rattle.cells.specs.declared.schema.ColumnType.TheVariants.{Int}
use Rattle.cells.specs.declared.total.Total.TheVariants as total
use Rattle.query.specs.Having.{having_of}
use Rattle.query.specs.Sets.{Names, resolved_sets}
use Rattle.query.specs.Trees.{Cube, ElementTree, And, Holds, MorePredicates, NoPredicates, Or, PredicateTree, Rollup}
use Rattle.query.specs.Truth.{truth}
use Rattle.query.specs.Values.{QueryTree, no_having}
use Rattle.query.specs.declared.item.Item.{Item}
use Rattle.query.specs.declared.item.Item.TheVariants.{Column as Named, Grouping, Sum}
use Rattle.query.specs.declared.test.Comparison.TheVariants.{Equal, Greater}
use Rattle.query.specs.declared.test.Literal.TheVariants as literal
use Rattle.query.specs.declared.test.Operand.{Operand}
use Rattle.query.specs.declared.test.Operand.TheVariants as operand
use Rattle.query.specs.declared.test.Test.{Test}
use Rattle.query.specs.declared.test.Test.TheVariants.{Between, Compare}
use Rattle.query.specs.declared.truth.Truth.{Truth}

-- the units of one column each
abbrev pub A : Names
A = codes "A" ∷ []

abbrev pub B : Names
B = codes "B" ∷ []

abbrev pub C : Names
C = codes "C" ∷ []

abbrev pub columns : List Column
columns = record { name = codes "A"; kind = Int } ∷ record { name = codes "B"; kind = Int } ∷ record { name = codes "C"; kind = Int } ∷ []

-- the grouping sets over the table
abbrev pub sets_over : List ElementTree → List (List ℕ)
sets_over elements = resolved_sets columns (record { distinct = false; elements = elements })

-- the same with DISTINCT
abbrev pub different_sets_over : List ElementTree → List (List ℕ)
different_sets_over elements = resolved_sets columns (record { distinct = true; elements = elements })

-- 1 = 1, 1 = 2, and UNITS = 1 for the one column UNITS
abbrev pub holds : PredicateTree (Test ℕ)
holds = Holds (Compare (operand.Literal (literal.Int (pos 1))) Equal (operand.Literal (literal.Int (pos 1))))

abbrev pub fails : PredicateTree (Test ℕ)
fails = Holds (Compare (operand.Literal (literal.Int (pos 1))) Equal (operand.Literal (literal.Int (pos 2))))

abbrev pub unknown : PredicateTree (Test ℕ)
unknown = Holds (Compare (operand.Column 0) Equal (operand.Literal (literal.Int (pos 1))))

abbrev pub both : PredicateTree (Test ℕ) → PredicateTree (Test ℕ) → PredicateTree (Test ℕ)
both p q = And (MorePredicates p (MorePredicates q NoPredicates))

abbrev pub either : PredicateTree (Test ℕ) → PredicateTree (Test ℕ) → PredicateTree (Test ℕ)
either p q = Or (MorePredicates p (MorePredicates q NoPredicates))

-- the truth where UNITS is NULL
abbrev pub of_null : PredicateTree (Test ℕ) → Truth
of_null p = truth p (total.Null ∷ [])

-- SUM of one column over the rows with more than 1 in it, by a CUBE of another
abbrev pub sums : List ℕ
sums = codes "SELECT A, SUM(B) FROM T WHERE B > 1 GROUP BY CUBE (A)"

abbrev pub sums_tree : QueryTree
sums_tree = record {
  items = Named (codes "A") ∷ Sum (codes "B") ∷ [];
  table = codes "T";
  condition = Some (Holds (Compare (operand.Column (codes "B")) Greater (operand.Literal (literal.Int (pos 1)))));
  groups = record { distinct = false; elements = Cube (A ∷ []) ∷ [] };
  having = no_having;
}

-- the regions of few units, and all regions together
abbrev pub regions : List ℕ
regions = codes "SELECT REGION, SUM(UNITS) FROM SALES GROUP BY ROLLUP (REGION) HAVING SUM(UNITS) BETWEEN 1 AND 9 OR GROUPING(REGION) = 1"

abbrev number : ℕ → Operand (Item (List ℕ))
number n = operand.Literal (literal.Int (pos n))

abbrev pub regions_tree : QueryTree
regions_tree = record {
  items = Named (codes "REGION") ∷ Sum (codes "UNITS") ∷ [];
  table = codes "SALES";
  condition = None;
  groups = record { distinct = false; elements = Rollup ((codes "REGION" ∷ []) ∷ []) ∷ [] };
  having = having_of (Or (
      MorePredicates (Holds (Between (operand.Column (Sum (codes "UNITS"))) (number 1) (number 9) false)) (
      MorePredicates (Holds (Compare (operand.Column (Grouping (codes "REGION" ∷ []))) Equal (number 1))) NoPredicates)));
}
