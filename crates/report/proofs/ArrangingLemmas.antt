-- The order of the rows of a report.
use Rattle.std.proofs.Common.{◌≡◌, ℕ, Bool, true, false, List, [], ◌∷◌, Option, refl, subst}
use Rattle.std.proofs.lemmas.List.MinMax.{ranks_by}
use Rattle.std.specs.Cmp.{IsStrictWeakOrder, IsTotalOrder, back_total, int_cmp_total, nat_cmp_total, on_total, then_total}
use Rattle.std.specs.Cmp.Derive.{point_total}
use Rattle.std.specs.Cmp.Lexicographic.{nat_list_cmp_total}
use Rattle.std.specs.Ordering.{int_cmp, is_lt, nat_cmp, on, ordering_then, then_cmp}
use Rattle.std.specs.Prelude.{ℤ, if◌then◌else◌, pos}
use Rattle.std.specs.declared.cmp.Ordering.{Ordering}
use Rattle.std.specs.declared.cmp.Ordering.TheVariants.{Less, Equal, Greater}
use Rattle.cells.specs.TextOrder.{bytes_cmp}
use Rattle.cells.specs.TotalOrder.{total_cmp}
use Rattle.cells.specs.declared.total.Total.{Total}
use Rattle.cells.specs.declared.total.Total.TheVariants.{Null, Int, Text}
use Rattle.report.specs.Arranging.{Values, rows_cmp, value_at}
use Rattle.report.specs.declared.arranging.SortColumn.{SortColumn}

-- ---- the order of values, read off three keys

kind_of : Total → ℕ
kind_of Null = 0
kind_of (Int a) = 1
kind_of (Text a) = 2

number_of : Total → ℤ
number_of Null = pos 0
number_of (Int a) = a
number_of (Text a) = pos 0

bytes_of : Total → List ℕ
bytes_of Null = []
bytes_of (Int a) = []
bytes_of (Text a) = a

abbrev by_keys : Total → Total → Ordering
by_keys = then_cmp (on kind_of nat_cmp) (then_cmp (on number_of int_cmp) (on bytes_of bytes_cmp))

keys_total : IsTotalOrder by_keys
keys_total = then_total (on_total kind_of nat_cmp_total) (then_total (on_total number_of int_cmp_total) (on_total bytes_of nat_list_cmp_total))

-- a tie last decides nothing
then_equal : (o : Ordering) → ordering_then o Equal ≡ o
then_equal Less = refl
then_equal Equal = refl
then_equal Greater = refl

same_order : (x y : Total) → by_keys x y ≡ total_cmp x y
unfolding kind_of number_of bytes_of
same_order Null Null = refl
same_order Null (Int b) = refl
same_order Null (Text b) = refl
same_order (Int a) Null = refl
same_order (Int a) (Int b) = then_equal (int_cmp a b)
same_order (Int a) (Text b) = refl
same_order (Text a) Null = refl
same_order (Text a) (Int b) = refl
same_order (Text a) (Text b) = refl

values_total : IsTotalOrder total_cmp
values_total = subst IsTotalOrder (λ i x y. same_order x y i) keys_total

-- ---- and of rows

by_way : (descends : Bool) (index : Option ℕ) → IsTotalOrder (λ (a b : Values). if descends then total_cmp (value_at b index) (value_at a index) else total_cmp (value_at a index) (value_at b index))
by_way true index = back_total (on_total (λ row. value_at row index) values_total)
by_way false index = on_total (λ row. value_at row index) values_total

rows_total : (columns : List SortColumn) → IsTotalOrder (rows_cmp columns)
rows_total [] = point_total
rows_total (column ∷ columns) = then_total (by_way column.descends column.index) (rows_total columns)

pub rows_ranks : (columns : List SortColumn) → IsStrictWeakOrder (λ a b. is_lt (rows_cmp columns a b))
rows_ranks columns = ranks_by (rows_total columns) (λ row. row)
