-- The laws of MIN and MAX.
use Rattle.std.specs.Prelude.{◌≡◌, List, ◌++◌, Option, None}
use Rattle.std.specs.Cmp.{back_total}
use Rattle.std.specs.List.Sorted.{IsPermutation}
use Rattle.std.proofs.Common.{ap, sym}
use Rattle.std.proofs.lemmas.Map.Lookups.{CmpEqualImpliesEq}
use Rattle.aggs.specs.Counts.{present_append}
use Rattle.aggs.specs.Picks.{pick_assoc, pick_turns}
use Rattle.aggs.specs.Reducing.{merged, merged_none, picked_any_order, picked_joins}
use Rattle.aggs.specs.Values.{greater, greatest_of, least_of, lesser, present}
use Rattle.aggs.specs.declared.greatest.Max.{Max}
use Rattle.aggs.specs.declared.least.Min.{Min}
use Rattle.cells.specs.CellOrder.{cell_cmp, cell_cmp-total}
use Rattle.cells.specs.SameKeys.{exact_cells}
use Rattle.cells.specs.declared.cell.Cell.{Cell}

-- the accumulators of a cell that may be there
abbrev pub least_kept : Option Cell → Min
least_kept c = record { least = c }

abbrev pub greatest_kept : Option Cell → Max
greatest_kept c = record { greatest = c }

lesser_assoc : (a b c : Cell) → lesser (lesser a b) c ≡ lesser a (lesser b c)
lesser_assoc = pick_assoc cell_cmp cell_cmp-total exact_cells

lesser_turns : (a b : Cell) → lesser a b ≡ lesser b a
lesser_turns = pick_turns cell_cmp cell_cmp-total exact_cells

-- the greater is the lesser in the order turned round
back_exact : CmpEqualImpliesEq (λ a b. cell_cmp b a)
back_exact a b e = sym (exact_cells b a e)

greater_assoc : (a b c : Cell) → greater (greater a b) c ≡ greater a (greater b c)
greater_assoc = pick_assoc (λ a b. cell_cmp b a) (back_total cell_cmp-total) back_exact

greater_turns : (a b : Cell) → greater a b ≡ greater b a
greater_turns = pick_turns (λ a b. cell_cmp b a) (back_total cell_cmp-total) back_exact

pub least_joins : (xs ys : List Cell) → least_kept (least_of (xs ++ ys)) ≡ least_kept (merged lesser (least_of xs) (least_of ys))
least_joins xs ys = ap least_kept (picked_joins lesser lesser_assoc lesser_turns present present_append xs ys)

pub least_any_order : (xs ys : List Cell) → IsPermutation xs ys → least_kept (least_of xs) ≡ least_kept (least_of ys)
least_any_order xs ys p = ap least_kept (picked_any_order lesser lesser_assoc lesser_turns present present_append xs ys p)

pub least_unit : (a : Min) → least_kept (merged lesser a.least None) ≡ a
least_unit a = ap least_kept (merged_none lesser a.least)

pub greatest_joins : (xs ys : List Cell) → greatest_kept (greatest_of (xs ++ ys)) ≡ greatest_kept (merged greater (greatest_of xs) (greatest_of ys))
greatest_joins xs ys = ap greatest_kept (picked_joins greater greater_assoc greater_turns present present_append xs ys)

pub greatest_any_order : (xs ys : List Cell) → IsPermutation xs ys → greatest_kept (greatest_of xs) ≡ greatest_kept (greatest_of ys)
greatest_any_order xs ys p = ap greatest_kept (picked_any_order greater greater_assoc greater_turns present present_append xs ys p)

pub greatest_unit : (a : Max) → greatest_kept (merged greater a.greatest None) ≡ a
greatest_unit a = ap greatest_kept (merged_none greater a.greatest)
