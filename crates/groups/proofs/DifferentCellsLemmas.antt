-- Cells that are sorted, each once, and of which those that are not NULL stay: as many as there are different ones.
use Rattle.std.specs.Prelude.{◌≡◌, ◌≤◌, not, ◌&&◌, List, [], ◌∷◌, filter, length, refl}
use Rattle.std.specs.FinSet.{from_list, len, same_set}
use Rattle.std.specs.List.{dedup}
use Rattle.std.specs.List.Sorted.{IsPermutation, IsSorted, IsStrictlySortedBy}
use Rattle.std.specs.Set.{distinct_count}
use Rattle.std.proofs.Common.{ap, arith, subst, sym, ◌∙◌}
use Rattle.std.proofs.lemmas.List.Kept.{Contains-dedup, IsStrictlySortedBy-dedup, IsStrictlySortedBy-filter}
use Rattle.std.proofs.lemmas.Map.Keys.{IsDistinct-from_sorted}
use Rattle.std.proofs.lemmas.Map.Made.{distinct_count-from_IsDistinct, distinct_count-le}
use Rattle.aggs.specs.Counts.{number_at_most}
use Rattle.aggs.specs.Differing.{contains_different, different, different_any_order, different_count_is}
use Rattle.aggs.specs.Values.{is_null, present}
use Rattle.cells.specs.CellOrder.{cell_cmp, cell_cmp-total, cell_eq, cell_eq-equiv}
use Rattle.cells.specs.SameKeys.{exact_cells, same_cells}
use Rattle.cells.specs.declared.cell.Cell.{Cell}
use Rattle.cells.specs.declared.cell.Cell.TheVariants.{Null, Int, Text}
use Rattle.groups.proofs.DifferingLemmas.{any_once, any_present}

same_once : (cells : List Cell) → different (dedup cell_eq cells) ≡ different cells
same_once cells = same_set cell_cmp-total exact_cells _ _ (λ q.
    contains_different (dedup cell_eq cells) q ∙ any_present (cell_eq q) (dedup cell_eq cells) ∙ any_once cell_eq (Contains-dedup cell_eq-equiv same_cells) (λ c. not (is_null c) && cell_eq q c) cells ∙
    sym (any_present (cell_eq q) cells) ∙ sym (contains_different cells q))

present_twice : (cells : List Cell) → present (present cells) ≡ present cells
present_twice [] = refl
present_twice (Null ∷ cells) = present_twice cells
present_twice (Int n ∷ cells) = ap (λ l. Int n ∷ l) (present_twice cells)
present_twice (Text t ∷ cells) = ap (λ l. Text t ∷ l) (present_twice cells)

different_present : (cells : List Cell) → different (present cells) ≡ different cells
different_present cells = ap (λ l. from_list l) (present_twice cells)

-- cells that are as many as their different ones, of which none is NULL
all_present : (cells : List Cell) → length cells ≤ length (present cells) → present cells ≡ cells
all_present [] many = refl
all_present (Null ∷ cells) many = absurd (omega (arith, many, number_at_most cells))
all_present (Int n ∷ cells) many = ap (λ l. Int n ∷ l) (all_present cells (omega (arith, many)))
all_present (Text t ∷ cells) many = ap (λ l. Text t ∷ l) (all_present cells (omega (arith, many)))

pub listed : (cells : List Cell) → len (different cells) ≡ length cells → from_list {R = cell_cmp} cells ≡ different cells
listed cells many = ap (λ l. from_list l) (sym (all_present cells
    (omega (arith, many, different_count_is cells, distinct_count-le cell_eq (present cells)))))

-- cells as they came, sorted, each once, and those that are not NULL
pub record AreSorted (cells sorted once made : List Cell) : Type 0 where
  pub moved : IsPermutation cells sorted
  pub rise : IsSorted cell_cmp sorted
  pub each : once ≡ dedup cell_eq sorted
  pub present : made ≡ filter (λ c. not (is_null c)) once

module _ (cells sorted once made : List Cell) (are : AreSorted cells sorted once made) where
  pub sorted_same : different made ≡ different cells
  sorted_same = ap different are.present ∙ different_present once ∙ ap different are.each ∙ same_once sorted ∙ sym (different_any_order cells sorted are.moved)

  strictly : IsStrictlySortedBy cell_cmp made
  strictly =
      subst (IsStrictlySortedBy cell_cmp) (sym are.present) (IsStrictlySortedBy-filter cell_cmp (λ c. not (is_null c)) once
      (subst (IsStrictlySortedBy cell_cmp) (sym are.each) (IsStrictlySortedBy-dedup cell_cmp-total (λ x y. refl) sorted are.rise)))

  pub sorted_once : len (different made) ≡ length made
  sorted_once =
      different_count_is made ∙ ap (distinct_count cell_eq) (ap present are.present ∙ present_twice once ∙ sym are.present)
      ∙ distinct_count-from_IsDistinct cell_eq-equiv made (IsDistinct-from_sorted cell_cmp made strictly)
