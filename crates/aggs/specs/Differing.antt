-- The different cells of a list, and the laws of their set.
use Rattle.std.specs.Prelude.{◌≡◌, ℕ, suc, pos, ◌+◌, ◌<◌, ◌≤◌, ◌^◌, Bool, true, false, cond, ◌||◌, List, [], ◌∷◌, ◌++◌, length, refl}
use Rattle.std.specs.FinSet.{FinSet, contains, contains-empty, contains-from_list, contains-union, empty, from_list, len, len-empty, len-insert, same_set, union}
use Rattle.std.specs.List.{list_any}
use Rattle.std.specs.List.Sorted.{IsPermutation}
use Rattle.std.specs.Set.{distinct_count, is_member, unique_keys}
use Rattle.std.proofs.Common.{ap, ap₂, sym, ◌∙◌, add-one, arith}
use Rattle.std.proofs.lemmas.List.Folds.{list_any-append}
use Rattle.std.proofs.lemmas.Map.Made.{distinct_count-le}
use Rattle.aggs.specs.Bags.{decided_by_bag}
use Rattle.aggs.specs.Counts.{number_at_most, present_append}
use Rattle.aggs.specs.Room.{cell_limit}
use Rattle.aggs.specs.Values.{different_count, present}
use Rattle.cells.specs.CellOrder.{cell_cmp, cell_cmp-total, cell_eq}
use Rattle.cells.specs.SameKeys.{exact_cells}
use Rattle.cells.specs.declared.cell.Cell.{Cell}
use Rattle.cells.specs.declared.total.Total.TheVariants as total

-- a set of cells
abbrev pub Cells : Type 0
Cells = FinSet cell_cmp

-- the different cells of a list that are not NULL
abbrev pub different : List Cell → Cells
different cells = from_list (present cells)

same : (s t : Cells) → ((q : Cell) → contains s q ≡ contains t q) → s ≡ t
same s t alike = same_set cell_cmp-total exact_cells s t alike

or_turns : (a b : Bool) → (a || b) ≡ (b || a)
or_turns true true = refl
or_turns true false = refl
or_turns false true = refl
or_turns false false = refl

pub contains_different : (xs : List Cell) (q : Cell) → contains (different xs) q ≡ list_any (cell_eq q) (present xs)
contains_different xs q = contains-from_list cell_cmp-total (present xs) q

pub union_turns : (s t : Cells) → union s t ≡ union t s
union_turns s t = same _ _ (λ q. contains-union cell_cmp-total s t q ∙ or_turns (contains s q) (contains t q) ∙ sym (contains-union cell_cmp-total t s q))

pub nothing_first : (s : Cells) → union empty s ≡ s
nothing_first s = same _ _ (λ q. contains-union cell_cmp-total empty s q ∙ ap (λ b. b || contains s q) (contains-empty cell_cmp q))

pub nothing_second : (s : Cells) → union s empty ≡ s
nothing_second s = union_turns s empty ∙ nothing_first s

pub different_joins : (xs ys : List Cell) → different (xs ++ ys) ≡ union (different xs) (different ys)
different_joins xs ys = same _ _ (λ q.
    contains_different (xs ++ ys) q
    ∙ ap (list_any (cell_eq q)) (present_append xs ys)
    ∙ list_any-append (cell_eq q) (present xs) (present ys)
    ∙ ap₂ (λ (a b : Bool). a || b) (sym (contains_different xs q)) (sym (contains_different ys q))
    ∙ sym (contains-union cell_cmp-total (different xs) (different ys) q))

pub different_any_order : (xs ys : List Cell) → IsPermutation xs ys → different xs ≡ different ys
different_any_order xs ys p = decided_by_bag different union different_joins
    (λ us vs. different_joins us vs ∙ union_turns (different us) (different vs) ∙ sym (different_joins vs us)) xs ys p

-- one more cell, which is a member or not
counted_once : (b : Bool) (c : Cell) (n : ℕ) (us : List Cell) → n ≡ length us → cond b n (n + 1) ≡ length (cond b us (c ∷ us))
counted_once true c n us e = e
counted_once false c n us e = add-one n ∙ ap suc e

set_count : (cs : List Cell) → len (from_list {R = cell_cmp} cs) ≡ distinct_count cell_eq cs
set_count [] = len-empty cell_cmp
set_count (c ∷ cs) =
    len-insert cell_cmp-total (from_list cs) c
    ∙ ap (λ b. cond b (len (from_list {R = cell_cmp} cs)) (len (from_list {R = cell_cmp} cs) + 1)) (contains-from_list cell_cmp-total cs c)
    ∙ counted_once (is_member cell_eq cs c) c (len (from_list {R = cell_cmp} cs)) (unique_keys cell_eq cs) (set_count cs)

pub different_count_is : (xs : List Cell) → len (different xs) ≡ distinct_count cell_eq (present xs)
different_count_is xs = set_count (present xs)

different_at_most : (xs : List Cell) → len (different xs) ≤ length xs
different_at_most xs = omega (arith, different_count_is xs, distinct_count-le cell_eq (present xs), number_at_most xs)

pub different_room : (xs ys : List Cell) → length xs + length ys ≤ cell_limit → len (different xs) + len (different ys) < 2 ^ 64
different_room xs ys few = omega (arith, different_at_most xs, different_at_most ys)

pub different_finishes : (xs : List Cell) → total.Int (pos (len (different xs))) ≡ different_count xs
different_finishes xs = ap (λ n. total.Int (pos n)) (different_count_is xs)
