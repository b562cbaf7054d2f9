-- Accumulators of any of the six aggregates, and their laws.
use Rattle.std.specs.Prelude.{◌≡◌, ◌+◌, ◌<◌, ◌≤◌, ◌^◌, pos, List, [], ◌∷◌, ◌++◌, length, ⊤, refl}
use Rattle.std.specs.FinSet.{len, union}
use Rattle.std.specs.List.Sorted.{IsPermutation}
use Rattle.std.proofs.Common.{ap}
use Rattle.aggs.specs.Counts.{count_any_order, count_first, count_joins, count_room, count_second, counted, rows, rows_any_order, rows_first, rows_join, rows_room, rows_second}
use Rattle.aggs.specs.Differing.{different, different_any_order, different_finishes, different_joins, different_room, nothing_first, nothing_second}
use Rattle.aggs.specs.Extremes.{greatest_any_order, greatest_joins, greatest_kept, greatest_unit, least_any_order, least_joins, least_kept, least_unit}
use Rattle.aggs.specs.Reducing.{merged}
use Rattle.aggs.specs.Room.{cell_limit}
use Rattle.aggs.specs.Sums.{sum_any_order, sum_finishes, sum_first, sum_joins, sum_or_null, sum_room, sum_second, summed, sums}
use Rattle.aggs.specs.Values.{count, different_count, greater, greatest, greatest_of, least, least_of, lesser, present, row_count, sum, total_or_null}
use Rattle.aggs.specs.declared.acc.Acc.{Acc}
use Rattle.aggs.specs.declared.acc.Acc.TheVariants as acc
use Rattle.aggs.specs.declared.acc.Kind.{Kind}
use Rattle.aggs.specs.declared.acc.Kind.TheVariants as kind
use Rattle.cells.specs.TotalOrder.{cell_total}
use Rattle.cells.specs.declared.cell.Cell.{Cell}
use Rattle.cells.specs.declared.total.Total.{Total}
use Rattle.cells.specs.declared.total.Total.TheVariants as total

-- the value of an aggregate over a list of cells
abbrev pub value_of : Kind → List Cell → Total
value_of kind.CountRows xs = row_count xs
value_of kind.Count xs = count xs
value_of kind.CountDistinct xs = different_count xs
value_of kind.Sum xs = sum xs
value_of kind.Min xs = least xs
value_of kind.Max xs = greatest xs

-- the six values, in the order of the kinds
abbrev pub values_over : List Cell → List Total
values_over xs = row_count xs ∷ count xs ∷ different_count xs ∷ sum xs ∷ least xs ∷ greatest xs ∷ []

module _ {H : Type 0} where
  -- the accumulator of a list
  abbrev pub acc_of : Kind → List Cell → Acc H
  acc_of kind.CountRows xs = acc.CountRows (rows (length xs))
  acc_of kind.Count xs = acc.Count (counted (length (present xs)))
  acc_of kind.CountDistinct xs = acc.CountDistinct (different xs)
  acc_of kind.Sum xs = acc.Sum (summed xs)
  acc_of kind.Min xs = acc.Min (least_kept (least_of xs))
  acc_of kind.Max xs = acc.Max (greatest_kept (greatest_of xs))

  abbrev pub kind_of : Acc H → Kind
  kind_of (acc.CountRows a) = kind.CountRows
  kind_of (acc.Count a) = kind.Count
  kind_of (acc.CountDistinct a) = kind.CountDistinct
  kind_of (acc.Sum a) = kind.Sum
  kind_of (acc.Min a) = kind.Min
  kind_of (acc.Max a) = kind.Max

  -- two accumulators of one aggregate put together
  abbrev pub acc_together : Acc H → Acc H → Acc H
  acc_together (acc.CountRows a) (acc.CountRows b) = acc.CountRows (rows (a.count + b.count))
  acc_together (acc.Count a) (acc.Count b) = acc.Count (counted (a.count + b.count))
  acc_together (acc.CountDistinct a) (acc.CountDistinct b) = acc.CountDistinct (union a b)
  acc_together (acc.Sum a) (acc.Sum b) = acc.Sum (sums a b)
  acc_together (acc.Min a) (acc.Min b) = acc.Min (least_kept (merged lesser a.least b.least))
  acc_together (acc.Max a) (acc.Max b) = acc.Max (greatest_kept (merged greater a.greatest b.greatest))
  acc_together a b = a

  -- what is asked of two accumulators that are put together
  abbrev pub AccsFit : Acc H → Acc H → Type 0
  AccsFit (acc.CountRows a) (acc.CountRows b) = a.count + b.count < 2 ^ 64
  AccsFit (acc.Count a) (acc.Count b) = a.count + b.count < 2 ^ 64
  AccsFit (acc.CountDistinct a) (acc.CountDistinct b) = len a + len b < 2 ^ 64
  AccsFit (acc.Sum a) (acc.Sum b) = a.integers + b.integers ≤ cell_limit
  AccsFit a b = ⊤

  -- the value that an accumulator gives
  abbrev pub acc_total : Acc H → Total
  acc_total (acc.CountRows a) = total.Int (pos a.count)
  acc_total (acc.Count a) = total.Int (pos a.count)
  acc_total (acc.CountDistinct a) = total.Int (pos (len a))
  acc_total (acc.Sum a) = sum_or_null a.integers a.sum
  acc_total (acc.Min a) = total_or_null cell_total a.least
  acc_total (acc.Max a) = total_or_null cell_total a.greatest

pub acc_kind : (H : Type 0) (k : Kind) (xs : List Cell) → kind_of (acc_of {H = H} k xs) ≡ k
acc_kind H kind.CountRows xs = refl
acc_kind H other xs = refl

pub acc_joins : {H : Type 0} (k : Kind) (xs ys : List Cell) → acc_of {H = H} k (xs ++ ys) ≡ acc_together (acc_of k xs) (acc_of k ys)
acc_joins kind.CountRows xs ys = ap acc.CountRows (rows_join xs ys)
acc_joins kind.Count xs ys = ap acc.Count (count_joins xs ys)
acc_joins kind.CountDistinct xs ys = ap acc.CountDistinct (different_joins xs ys)
acc_joins kind.Sum xs ys = ap acc.Sum (sum_joins xs ys)
acc_joins kind.Min xs ys = ap acc.Min (least_joins xs ys)
acc_joins kind.Max xs ys = ap acc.Max (greatest_joins xs ys)

pub acc_unit_first : {H : Type 0} (a : Acc H) → acc_together (acc_of (kind_of a) []) a ≡ a
acc_unit_first (acc.CountRows a) = ap acc.CountRows (rows_first a)
acc_unit_first (acc.Count a) = ap acc.Count (count_first a)
acc_unit_first (acc.CountDistinct a) = ap acc.CountDistinct (nothing_first a)
acc_unit_first (acc.Sum a) = ap acc.Sum (sum_first a)
acc_unit_first (acc.Min a) = refl
acc_unit_first (acc.Max a) = refl

pub acc_unit_second : {H : Type 0} (a : Acc H) → acc_together a (acc_of (kind_of a) []) ≡ a
acc_unit_second (acc.CountRows a) = ap acc.CountRows (rows_second a)
acc_unit_second (acc.Count a) = ap acc.Count (count_second a)
acc_unit_second (acc.CountDistinct a) = ap acc.CountDistinct (nothing_second a)
acc_unit_second (acc.Sum a) = ap acc.Sum (sum_second a)
acc_unit_second (acc.Min a) = ap acc.Min (least_unit a)
acc_unit_second (acc.Max a) = ap acc.Max (greatest_unit a)

pub acc_any_order : {H : Type 0} (k : Kind) (xs ys : List Cell) → IsPermutation xs ys → acc_of {H = H} k xs ≡ acc_of k ys
acc_any_order kind.CountRows xs ys p = ap acc.CountRows (rows_any_order xs ys p)
acc_any_order kind.Count xs ys p = ap acc.Count (count_any_order xs ys p)
acc_any_order kind.CountDistinct xs ys p = ap acc.CountDistinct (different_any_order xs ys p)
acc_any_order kind.Sum xs ys p = ap acc.Sum (sum_any_order xs ys p)
acc_any_order kind.Min xs ys p = ap acc.Min (least_any_order xs ys p)
acc_any_order kind.Max xs ys p = ap acc.Max (greatest_any_order xs ys p)

pub acc_finishes : (H : Type 0) (k : Kind) (xs : List Cell) → acc_total (acc_of {H = H} k xs) ≡ value_of k xs
acc_finishes H kind.CountRows xs = refl
acc_finishes H kind.Count xs = refl
acc_finishes H kind.CountDistinct xs = different_finishes xs
acc_finishes H kind.Sum xs = sum_finishes xs
acc_finishes H kind.Min xs = refl
acc_finishes H kind.Max xs = refl

pub acc_room : (H : Type 0) (k : Kind) (xs ys : List Cell) → length xs + length ys ≤ cell_limit → AccsFit (acc_of {H = H} k xs) (acc_of k ys)
acc_room H kind.CountRows xs ys few = rows_room xs ys few
acc_room H kind.Count xs ys few = count_room xs ys few
acc_room H kind.CountDistinct xs ys few = different_room xs ys few
acc_room H kind.Sum xs ys few = sum_room xs ys few
acc_room H kind.Min xs ys few = tt
acc_room H kind.Max xs ys few = tt
