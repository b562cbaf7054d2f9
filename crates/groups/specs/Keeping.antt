-- The rows that WHERE keeps, found by the columns that it names.
use Rattle.std.specs.Prelude.{◌≡◌, ℕ, ◌<◌, ◌≤◌, Bool, false, List, length, map, slice_index_or, Some}
use Rattle.std.specs.List.{AllByRecursion, range_with_len}
use Rattle.cells.specs.TotalOrder.{cell_total}
use Rattle.cells.specs.Values.{RowValue}
use Rattle.cells.specs.declared.cell.Cell.{Cell}
use Rattle.groups.specs.Groups.{cell_at_index, is_true, kept, index_in}
use Rattle.groups.specs.Numbered.{picked_rows}
use Rattle.groups.specs.Tallying.{passing}
use Rattle.query.specs.Trees.{PredicateTree}
use Rattle.query.specs.Truth.{truth}
use Rattle.query.specs.declared.test.Test.{Test}

-- the cells of a row with this tuple in the named columns, and NULL in all others
abbrev pub cells_for : List ℕ → ℕ → List Cell → List Cell
cells_for named width tuple = map (λ k. cell_at_index tuple (index_in named k)) (range_with_len 0 width)

-- whether the predicate is true for such a row
abbrev pub truth_for : PredicateTree (Test ℕ) → List ℕ → ℕ → List Cell → Bool
truth_for p named width tuple = is_true (truth p (map cell_total (cells_for named width tuple)))

-- those of some things whose numbers are marked
abbrev pub chosen : {X : Type 0} → List Bool → List ℕ → List X → List X
chosen marks numbers xs = passing (λ n. slice_index_or marks n false) numbers xs

-- some of the indexes: those of the rows for which the predicate is true
pub record KeptBy (p : PredicateTree (Test ℕ)) (all : List RowValue) (indexes some : List ℕ) : Type 0 where
  pub kept : picked_rows all some ≡ kept (Some p) (picked_rows all indexes)
  pub among : (n : ℕ) → AllByRecursion (λ i. i < n) indexes → AllByRecursion (λ i. i < n) some
  pub few : length some ≤ length indexes
