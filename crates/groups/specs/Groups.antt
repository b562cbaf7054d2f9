-- Grouped queries over lists of rows (ISO/IEC 9075-2:1999, 7.8 <where clause>, 7.9 <group by clause>, 7.10 <having clause>, 7.11
-- <query specification>; GROUPING of several columns after ISO/IEC 9075-2:2016, feature T433).
use Rattle.std.specs.Prelude.{ℕ, pos, ◌==◌, ◌+◌, ◌*◌, ◌^◌, Bool, true, false, List, [], ◌∷◌, drop, filter, if◌then◌else◌, length, map, slice_index_or, take, Option, Some, None, position}
use Rattle.std.specs.List.{flat_map}
use Rattle.std.specs.Ordering.{match_ordering}
use Rattle.aggs.specs.Values.{count, different_count, greatest, least, sum}
use Rattle.cells.specs.TotalOrder.{cell_total}
use Rattle.cells.specs.TupleOrder.{tuple_cmp, tuple_eq}
use Rattle.cells.specs.Values.{RowValue}
use Rattle.cells.specs.declared.cell.Cell.{Cell}
use Rattle.cells.specs.declared.cell.Cell.TheVariants.{Null}
use Rattle.cells.specs.declared.total.Total.{Total}
use Rattle.cells.specs.declared.total.Total.TheVariants as total
use Rattle.query.specs.Plans.{PlanTree}
use Rattle.query.specs.Trees.{PredicateTree}
use Rattle.query.specs.Truth.{truth}
use Rattle.query.specs.declared.item.Item.{Item}
use Rattle.query.specs.declared.item.Item.TheVariants as item
use Rattle.query.specs.declared.test.Test.{Test}
use Rattle.query.specs.declared.truth.Truth.{Truth}
use Rattle.query.specs.declared.truth.Truth.TheVariants.{True, False, Unknown}

abbrev pub is_true : Truth → Bool
is_true True = true
is_true False = false
is_true Unknown = false

-- the predicate is true for the values; where there is none, it is as if it were
abbrev pub holds : Option (PredicateTree (Test ℕ)) → List Total → Bool
holds None values = true
holds (Some p) values = is_true (truth p values)

-- ---- WHERE (7.8)

-- the predicate is true for the row's cells
abbrev pub keeps : Option (PredicateTree (Test ℕ)) → RowValue → Bool
keeps condition row = holds condition (map cell_total row.cells)

abbrev pub kept : Option (PredicateTree (Test ℕ)) → List RowValue → List RowValue
kept condition rows = filter (keeps condition) rows

-- ---- groups (7.9)

-- the row's cell in a column
abbrev pub cell_at : ℕ → RowValue → Cell
cell_at column row = slice_index_or row.cells column Null

-- the rows' cells in a column
abbrev pub column_of : ℕ → List RowValue → List Cell
column_of column rows = map (cell_at column) rows

-- the row's cells in the columns of a grouping set
abbrev pub tuple_of : List ℕ → RowValue → List Cell
tuple_of set row = map (λ c. cell_at c row) set

-- the rows of a group: those whose cells in the columns of the set are not distinct from the tuple's
abbrev pub members : List ℕ → List Cell → List RowValue → List RowValue
members set tuple rows = filter (λ r. tuple_eq (tuple_of set r) tuple) rows

-- a tuple laid into rising ones, unless it is there
abbrev pub lay : List Cell → List (List Cell) → List (List Cell)
lay tuple [] = tuple ∷ []
lay tuple (t ∷ ts) = match_ordering (tuple_cmp tuple t) (tuple ∷ t ∷ ts) (t ∷ ts) (t ∷ lay tuple ts)

-- the different ones of some tuples, rising
abbrev pub different : List (List Cell) → List (List Cell)
different [] = []
different (t ∷ ts) = lay t (different ts)

-- the tuples of a grouping set, one for each group: for the empty set always the one empty tuple
abbrev pub tuples : List ℕ → List RowValue → List (List Cell)
tuples [] rows = [] ∷ []
tuples (c ∷ set) rows = different (map (tuple_of (c ∷ set)) rows)

-- ---- items (7.11)

-- the index of the column in the grouping set, if it is there
abbrev pub index_in : List ℕ → ℕ → Option ℕ
index_in set column = position (λ c. c == column) set

-- the tuple's cell of an index, and NULL for none
abbrev pub cell_at_index : List Cell → Option ℕ → Cell
cell_at_index tuple None = Null
cell_at_index tuple (Some i) = slice_index_or tuple i Null

-- the mark of a column, by its index in the grouping set: 0 where it stands there, else 1
abbrev pub mark : Option ℕ → ℕ
mark None = 1
mark (Some i) = 0

-- GROUPING (feature T433 where there are several columns): the number whose binary digits are the marks of the columns, that
-- of the last column the lowest
abbrev pub grouping : List ℕ → List ℕ → ℕ
grouping set [] = 0
grouping set (c ∷ columns) = mark (index_in set c) * 2 ^ length columns + grouping set columns

-- the value of an item in the group of these rows
abbrev pub item_value : List ℕ → List Cell → List RowValue → Item ℕ → Total
item_value set tuple group (item.Column c) = cell_total (cell_at_index tuple (index_in set c))
item_value set tuple group (item.Grouping columns) = total.Int (pos (grouping set columns))
item_value set tuple group item.CountRows = total.Int (pos (length group))
item_value set tuple group (item.Count c) = count (column_of c group)
item_value set tuple group (item.CountDistinct c) = different_count (column_of c group)
item_value set tuple group (item.Sum c) = sum (column_of c group)
item_value set tuple group (item.Min c) = least (column_of c group)
item_value set tuple group (item.Max c) = greatest (column_of c group)

-- ---- HAVING (7.10)

-- the values of a group that are shown: those of the select list, where HAVING is true for the values of its own items, which
-- stand behind them; else the group is dropped
abbrev pub shown : PlanTree → List Total → List (List Total)
shown plan values = if holds plan.having (drop (length plan.headings) values) then take (length plan.headings) values ∷ [] else []

-- ---- the report

-- the rows of the report for a grouping set, one for each of its tuples whose group is not dropped
abbrev pub set_rows : PlanTree → List ℕ → List RowValue → List (List Total)
set_rows plan set rows = flat_map (λ t. shown plan (map (item_value set t (members set t rows)) plan.items)) (tuples set rows)

-- the rows of the report for rows that are kept: those of each grouping set, in the order of the sets
abbrev pub rows_over : PlanTree → List RowValue → List (List Total)
rows_over plan rows = flat_map (λ set. set_rows plan set rows) plan.sets

-- the grouped query over a table's rows
abbrev pub report_rows : PlanTree → List RowValue → List (List Total)
report_rows plan rows = rows_over plan (kept plan.condition rows)
