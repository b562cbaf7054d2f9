-- What accumulators keep, as plain values.
use Rattle.std.specs.Prelude.{◌≡◌, ℕ, ℤ, ◌*◌, ◌^◌, Bool, true, List, length, Option, Some, None, if◌then◌else◌, nat_le}
use Rattle.std.specs.FinSet.{from_list}
use Rattle.std.specs.Int.RustNames.{unsigned_abs}
use Rattle.std.proofs.Common.{ap, ◌∙◌}
use Rattle.aggs.specs.Accs.{acc_of}
use Rattle.aggs.specs.Counts.{counted, rows}
use Rattle.aggs.specs.Differing.{different}
use Rattle.aggs.specs.Extremes.{greatest_kept, least_kept}
use Rattle.aggs.specs.Sums.{summed}
use Rattle.aggs.specs.Values.{greatest_of, least_of, present}
use Rattle.aggs.specs.declared.acc.Acc.{Acc}
use Rattle.aggs.specs.declared.acc.Acc.TheVariants as acc
use Rattle.aggs.specs.declared.acc.Kind.{Kind}
use Rattle.aggs.specs.declared.acc.Kind.TheVariants as kind
use Rattle.aggs.specs.declared.kept.Kept.{Kept}
use Rattle.aggs.specs.declared.kept.Kept.TheVariants as kept
use Rattle.cells.specs.CellOrder.{cell_cmp}
use Rattle.cells.specs.declared.cell.Cell.{Cell}

-- so many integers of 64 bits may have the sum
abbrev pub may_sum : ℤ → ℕ → Bool
may_sum sum integers = nat_le (unsigned_abs sum) (integers * 2 ^ 63)

-- this is kept of a list of cells for an aggregate
abbrev pub IsKept : Kind → List Cell → Kept → Type 0
IsKept kind.CountRows xs (kept.Count n) = n ≡ length xs
IsKept kind.Count xs (kept.Count n) = n ≡ length (present xs)
IsKept kind.CountDistinct xs (kept.Different cells) = from_list {R = cell_cmp} cells ≡ different xs
IsKept kind.Sum xs (kept.Sum sum integers) = (record { sum = sum; integers = integers } ≡ summed xs) × (may_sum sum integers ≡ true)
IsKept kind.Min xs (kept.Extreme c) = c ≡ least_of xs
IsKept kind.Max xs (kept.Extreme c) = c ≡ greatest_of xs
IsKept k xs e = ⊥

module _ {H : Type 0} where
  abbrev pub sum_of_kept : ℤ → ℕ → Option (Acc H)
  sum_of_kept sum integers = if may_sum sum integers then Some (acc.Sum (record { sum = sum; integers = integers })) else None

  -- the accumulator of an aggregate that keeps this
  abbrev pub acc_of_kept : Kind → Kept → Option (Acc H)
  acc_of_kept kind.CountRows (kept.Count n) = Some (acc.CountRows (rows n))
  acc_of_kept kind.Count (kept.Count n) = Some (acc.Count (counted n))
  acc_of_kept kind.CountDistinct (kept.Different cells) = Some (acc.CountDistinct (from_list cells))
  acc_of_kept kind.Sum (kept.Sum sum integers) = sum_of_kept sum integers
  acc_of_kept kind.Min (kept.Extreme c) = Some (acc.Min (least_kept c))
  acc_of_kept kind.Max (kept.Extreme c) = Some (acc.Max (greatest_kept c))
  acc_of_kept k e = None

  -- what is kept of a list makes its accumulator
  pub kept_again : (k : Kind) (xs : List Cell) (e : Kept) → IsKept k xs e → acc_of_kept k e ≡ Some (acc_of k xs)
  kept_again kind.CountRows xs (kept.Count n) is = ap (λ m. Some (acc.CountRows (rows m))) is
  kept_again kind.Count xs (kept.Count n) is = ap (λ m. Some (acc.Count (counted m))) is
  kept_again kind.CountDistinct xs (kept.Different cells) is = ap (λ s. Some (acc.CountDistinct s)) is
  kept_again kind.Sum xs (kept.Sum sum integers) is =
      ap (λ b. if b then Some (acc.Sum (record { sum = sum; integers = integers })) else None) is.1 ∙ ap (λ s. Some (acc.Sum s)) is.0
  kept_again kind.Min xs (kept.Extreme c) is = ap (λ o. Some (acc.Min (least_kept o))) is
  kept_again kind.Max xs (kept.Extreme c) is = ap (λ o. Some (acc.Max (greatest_kept o))) is
  kept_again k xs e is = absurd is
