-- The faults of a query that is asked of a table: each by itself, and the one that is answered.
use Rattle.std.specs.Prelude.{ℕ, Bool, true, false, not, ◌||◌, List, [], ◌∷◌, Option, Some, None, bytes_eq, if◌then◌else◌, length, nat_lt, slice_get}
use Rattle.std.specs.List.{list_any}
use Rattle.cells.specs.Values.{Table}
use Rattle.cells.specs.declared.refused.Refused.{Refused}
use Rattle.cells.specs.declared.refused.Refused.TheVariants.{NotGrouped, TooManySets, Unknown, WrongType}
use Rattle.cells.specs.declared.schema.Column.{Column}
use Rattle.cells.specs.declared.schema.ColumnType.{ColumnType}
use Rattle.cells.specs.declared.schema.ColumnType.TheVariants as kind
use Rattle.query.specs.Limits.{set_limit}
use Rattle.query.specs.Names.{names_of, tests_where}
use Rattle.query.specs.Sets.{Names, grouping_sets}
use Rattle.query.specs.Values.{QueryTree, items_of}
use Rattle.query.specs.declared.checking.Faults.{Faults}
use Rattle.query.specs.declared.item.Item.{Item}
use Rattle.query.specs.declared.item.Item.TheVariants as item
use Rattle.query.specs.declared.test.Literal.{Literal}
use Rattle.query.specs.declared.test.Literal.TheVariants as literal
use Rattle.query.specs.declared.test.Operand.{Operand}
use Rattle.query.specs.declared.test.Operand.TheVariants as operand
use Rattle.query.specs.declared.test.Test.{Test}
use Rattle.query.specs.declared.test.Test.TheVariants.{Compare, IsNull, Between, In}

-- ---- Unknown: the query is of another table, or some name in it is no column

abbrev pub is_column : List Column → List ℕ → Bool
is_column columns name = list_any (λ c. bytes_eq c.name name) columns

abbrev pub has_unknown : List Column → List (List ℕ) → Bool
has_unknown columns names = list_any (λ n. not (is_column columns n)) names

abbrev pub is_unknown : Table → QueryTree → Bool
is_unknown table query = not (bytes_eq query.table table.name) || has_unknown table.columns (names_of query)

-- ---- WrongType: a sum over texts (6.16 of the standard), or an integer beside a text (8.2, 8.3 and 8.4)

abbrev pub is_text_type : ColumnType → Bool
is_text_type kind.Int = false
is_text_type kind.Text = true

-- the column of the name is of type TEXT
abbrev pub is_text_column : List Column → List ℕ → Bool
is_text_column [] name = false
is_text_column (c ∷ cs) name = if bytes_eq c.name name then is_text_type c.kind else is_text_column cs name

abbrev pub is_text_literal : Literal → Bool
is_text_literal (literal.Int n) = false
is_text_literal (literal.Text t) = true

-- the item's values are texts: counts, sums and GROUPING are integers, all others have the type of their column
abbrev pub is_text_item : List Column → Item (List ℕ) → Bool
is_text_item columns (item.Column n) = is_text_column columns n
is_text_item columns (item.Min n) = is_text_column columns n
is_text_item columns (item.Max n) = is_text_column columns n
is_text_item columns i = false

abbrev pub is_text_some : List Column → Option (Item (List ℕ)) → Bool
is_text_some columns None = false
is_text_some columns (Some i) = is_text_item columns i

-- the values of the item at the index are texts
abbrev pub is_text_at : List Column → List (Item (List ℕ)) → ℕ → Bool
is_text_at columns items index = is_text_some columns (slice_get items index)

abbrev pub is_text_operand : {C : Type 0} → (C → Bool) → Operand C → Bool
is_text_operand is_text (operand.Column c) = is_text c
is_text_operand is_text (operand.Literal l) = is_text_literal l

-- one is a text, and the other is none
abbrev pub differ : Bool → Bool → Bool
differ true b = not b
differ false b = b

-- by which of its leaves are texts, a test puts an integer beside a text
abbrev pub is_mixed : {C : Type 0} → (C → Bool) → Test C → Bool
is_mixed is_text (Compare a c b) = differ (is_text_operand is_text a) (is_text_operand is_text b)
is_mixed is_text (IsNull a not) = false
is_mixed is_text (Between a low high not) = differ (is_text_operand is_text a) (is_text_operand is_text low) || differ (is_text_operand is_text a) (is_text_operand is_text high)
is_mixed is_text (In a ls not) = list_any (λ l. differ (is_text_operand is_text a) (is_text_literal l)) ls

abbrev pub is_text_sum : List Column → Item (List ℕ) → Bool
is_text_sum columns (item.Sum n) = is_text_column columns n
is_text_sum columns i = false

abbrev pub is_wrong_type : Table → QueryTree → Bool
is_wrong_type table query =
    list_any (is_text_sum table.columns) (items_of query)
    || list_any (is_mixed (is_text_column table.columns)) (tests_where query.condition)
    || list_any (is_mixed (is_text_at table.columns query.having.items)) (tests_where query.having.predicate)

-- ---- NotGrouped: an item, of the select list (7.11) or of HAVING (7.10), is a column alone that is in no grouping set, or
-- GROUPING of such a column

-- one of the sets names the column
abbrev pub is_in_some : List Names → List ℕ → Bool
is_in_some sets name = list_any (λ s. list_any (bytes_eq name) s) sets

abbrev pub is_ungrouped : List Names → Item (List ℕ) → Bool
is_ungrouped sets (item.Column n) = not (is_in_some sets n)
is_ungrouped sets (item.Grouping ns) = list_any (λ n. not (is_in_some sets n)) ns
is_ungrouped sets i = false

abbrev pub is_not_grouped : QueryTree → Bool
is_not_grouped query = list_any (is_ungrouped (grouping_sets query.groups.elements)) (items_of query)

-- ---- TooManySets: there are more grouping sets than the limit, repeated ones counted, also those that DISTINCT drops

abbrev pub has_too_many_sets : QueryTree → Bool
has_too_many_sets query = nat_lt set_limit (length (grouping_sets query.groups.elements))

-- ---- all of them, and the first in the order in which they are answered

abbrev pub faults_of : Table → QueryTree → Faults
faults_of table query = record {
  unknown = is_unknown table query;
  wrong_type = is_wrong_type table query;
  not_grouped = is_not_grouped query;
  too_many_sets = has_too_many_sets query;
}

abbrev pub first_of : Faults → Option Refused
first_of faults =
    if faults.unknown then Some Unknown
    else if faults.wrong_type then Some WrongType
    else if faults.not_grouped then Some NotGrouped
    else if faults.too_many_sets then Some TooManySets
    else None

-- the fault of the query, if it has one
abbrev pub fault_of : Table → QueryTree → Option Refused
fault_of table query = first_of (faults_of table query)
