-- The values of aggregates over lists of cells (ISO/IEC 9075-2:1999, 6.16 <set function specification>).
use Rattle.std.specs.Prelude.{ℤ, pos, ◌+ℤ◌, Bool, true, false, not, List, [], ◌∷◌, length, filter, Option, Some, None, if◌then◌else◌}
use Rattle.std.specs.List.{reduce}
use Rattle.std.specs.Ordering.{is_lt}
use Rattle.std.specs.Set.{distinct_count}
use Rattle.cells.specs.CellOrder.{cell_cmp, cell_eq}
use Rattle.cells.specs.TotalOrder.{cell_total}
use Rattle.cells.specs.declared.cell.Cell.{Cell}
use Rattle.cells.specs.declared.cell.Cell.TheVariants.{Null, Int, Text}
use Rattle.cells.specs.declared.total.Total.{Total}
use Rattle.cells.specs.declared.total.Total.TheVariants as total

abbrev pub is_null : Cell → Bool
is_null Null = true
is_null (Int n) = false
is_null (Text t) = false

-- the cells that are not NULL
abbrev pub present : List Cell → List Cell
present cells = filter (λ c. not (is_null c)) cells

-- the integers among the cells
abbrev pub integers : List Cell → List ℤ
integers [] = []
integers (Null ∷ cells) = integers cells
integers (Int n ∷ cells) = n ∷ integers cells
integers (Text t ∷ cells) = integers cells

-- the lesser and the greater of two cells
abbrev pub lesser : Cell → Cell → Cell
lesser a b = if is_lt (cell_cmp b a) then b else a

abbrev pub greater : Cell → Cell → Cell
greater a b = if is_lt (cell_cmp a b) then b else a

-- what there may be, as a value: where there is nothing, NULL
abbrev pub total_or_null : {A : Type 0} → (A → Total) → Option A → Total
total_or_null as_total None = total.Null
total_or_null as_total (Some x) = as_total x

-- COUNT(*): how many rows there are, each of which gives a cell
abbrev pub row_count : List Cell → Total
row_count cells = total.Int (pos (length cells))

-- COUNT: how many cells are not NULL
abbrev pub count : List Cell → Total
count cells = total.Int (pos (length (present cells)))

-- COUNT DISTINCT: how many cells are not NULL, where those that are equal count once
abbrev pub different_count : List Cell → Total
different_count cells = total.Int (pos (distinct_count cell_eq (present cells)))

-- SUM: the sum of the integers, where there is one
abbrev pub sum_of : List Cell → Option ℤ
sum_of cells = reduce (λ m n. m +ℤ n) (integers cells)

abbrev pub sum : List Cell → Total
sum cells = total_or_null total.Int (sum_of cells)

-- MIN: the least of the cells that are not NULL, where there is one
abbrev pub least_of : List Cell → Option Cell
least_of cells = reduce lesser (present cells)

abbrev pub least : List Cell → Total
least cells = total_or_null cell_total (least_of cells)

-- MAX: the greatest of them
abbrev pub greatest_of : List Cell → Option Cell
greatest_of cells = reduce greater (present cells)

abbrev pub greatest : List Cell → Total
greatest cells = total_or_null cell_total (greatest_of cells)
