-- How the rows of a report are arranged: by sort keys, as those of an <order by clause> (ISO/IEC 9075-2:1999, 14.1), and up to a limit.
use Rattle.std.specs.Prelude.{ℕ, List, [], ◌∷◌, Option, Some, None, bytes_eq, if◌then◌else◌, map, slice_index_or, take}
use Rattle.std.specs.List.{position}
use Rattle.std.specs.Ordering.{is_lt, ordering_then}
use Rattle.std.specs.declared.cmp.Ordering.{Ordering}
use Rattle.std.specs.declared.cmp.Ordering.TheVariants.{Equal}
use Rattle.cells.specs.TotalOrder.{total_cmp}
use Rattle.cells.specs.declared.total.Total.{Total}
use Rattle.cells.specs.declared.total.Total.TheVariants.{Null}
use Rattle.report.specs.declared.arranging.SortColumn.{SortColumn}
use Rattle.report.specs.declared.arranging.SortKey.{SortKey}

-- a row of a report: its values
abbrev pub Values : Type 0
Values = List Total

-- the sort keys, of which the first decides first, and the most rows that are shown
pub record ArrangementValue : Type 0 where
  pub order : List SortKey
  pub limit : Option ℕ

-- all rows, as they come
abbrev pub unarranged : ArrangementValue
unarranged = record { order = []; limit = None }

-- a row's value in a column; NULL where there is no such column
abbrev pub value_at : Values → Option ℕ → Total
value_at row None = Null
value_at row (Some index) = slice_index_or row index Null

-- the column of a key: the first of its heading
abbrev pub column_of : List (List ℕ) → SortKey → SortColumn
column_of headings key = record { index = position (bytes_eq key.heading) headings; descends = key.descends }

-- how two rows compare by a column
abbrev pub column_cmp : SortColumn → Values → Values → Ordering
column_cmp column a b =
    if column.descends then total_cmp (value_at b column.index) (value_at a column.index) else total_cmp (value_at a column.index) (value_at b column.index)

-- and by several: the first in which they differ decides
abbrev pub rows_cmp : List SortColumn → Values → Values → Ordering
rows_cmp [] a b = Equal
rows_cmp (column ∷ columns) a b = ordering_then (column_cmp column a b) (rows_cmp columns a b)

-- a row before the first of these that is not less than it
abbrev pub laid : {X : Type 0} → (X → X → Ordering) → X → List X → List X
laid cmp row [] = row ∷ []
laid cmp row (other ∷ more) = if is_lt (cmp other row) then other ∷ laid cmp row more else row ∷ (other ∷ more)

-- rows in order; those that tie stand as they stood
abbrev pub sorted : {X : Type 0} → (X → X → Ordering) → List X → List X
sorted cmp [] = []
sorted cmp (row ∷ rows) = laid cmp row (sorted cmp rows)

-- rows of these headings, in the order of the keys
abbrev pub ordered : List SortKey → List (List ℕ) → List Values → List Values
ordered [] headings rows = rows
ordered (key ∷ keys) headings rows = sorted (rows_cmp (map (column_of headings) (key ∷ keys))) rows

-- the first rows, up to a limit
abbrev pub limited : Option ℕ → List Values → List Values
limited None rows = rows
limited (Some limit) rows = take limit rows

abbrev pub arranged : ArrangementValue → List (List ℕ) → List Values → List Values
arranged arrangement headings rows = limited arrangement.limit (ordered arrangement.order headings rows)
