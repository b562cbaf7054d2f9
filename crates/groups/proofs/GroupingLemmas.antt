-- GROUPING of several columns, digit by digit.
use Rattle.std.proofs.Common.{◌≡◌, ◌≤◌, ◌+◌, ◌*◌, ◌<◌, ℕ, zero, suc, Bool, true, false, ◌||◌, List, [], ◌∷◌, length, drop, get_or, take, refl, sym, ap, ap₂, subst, ◌∙◌, arith, Option, Some, None}
use Rattle.std.proofs.lemmas.Bool.Decides.{nat_tests}
use Rattle.std.proofs.lemmas.List.{drop_more}
use Rattle.std.specs.List.{list_any}
use Rattle.std.specs.Prelude.{◌^◌, nat_lt}
use Rattle.std.proofs.Math.Nat.{pow-suc}
use Rattle.groups.specs.Groups.{grouping, mark, index_in}
use Rattle.query.specs.Values.{is_long}
use Rattle.query.specs.declared.item.Item.{Item}
use Rattle.query.specs.declared.item.Item.TheVariants as item

mark_most : (at_set : Option ℕ) → mark at_set ≤ 1
mark_most None = omega arith
mark_most (Some i) = omega arith

-- what a loop keeps: the digits so far stand above those of the columns that are left
pub record Digits (set all left : List ℕ) (index found : ℕ) : Type 0 where
  pub same : grouping set all ≡ found * 2 ^ length left + grouping set left
  pub few : found + 1 ≤ 2 ^ index

digit_more : (found digit power next rest : ℕ) → next ≡ power * 2 → found * next + (digit * power + rest) ≡ (2 * found + digit) * power + rest
digit_more found digit power next rest e = grind (arith, e)

few_more : (found digit power next : ℕ) → next ≡ power * 2 → digit ≤ 1 → found + 1 ≤ power → 2 * found + digit + 1 ≤ next
few_more found digit power next e one few = omega (arith, e, one, few)

digits_next : (set all rest : List ℕ) (column index found : ℕ) → Digits set all (column ∷ rest) index found → Digits set all rest (suc index) (2 * found + mark (index_in set column))
digits_next set all rest column index found now = record {
  same = now.same ∙ digit_more found (mark (index_in set column)) (2 ^ length rest) (2 ^ suc (length rest)) (grouping set rest) (pow-suc 2 (length rest));
  few = few_more found (mark (index_in set column)) (2 ^ index) (2 ^ suc index) (pow-suc 2 index) (mark_most (index_in set column)) now.few;
}

-- the step of the loop
pub digit_step : (set columns : List ℕ) (index found digit : ℕ) (at_set : Option ℕ) → index < length columns → Digits set columns (drop index columns) index found → at_set ≡ index_in set (get_or columns index 0)
    → digit ≡ mark at_set → Digits set columns (drop (index + 1) columns) (index + 1) (2 * found + digit)
digit_step set columns index found digit at_set within now at digit_is =
    let column = get_or columns index 0 in
    let next = digits_next set columns (drop (index + 1) columns) column index found (subst (λ l. Digits set columns l index found) (drop_more columns index 0 within) now) in
    let more : suc index ≡ index + 1 = omega arith in
    let marks : mark (index_in set column) ≡ digit = ap mark (sym at) ∙ sym digit_is in
    subst (λ i. Digits set columns (drop (index + 1) columns) i (2 * found + digit)) more (subst (λ d. Digits set columns (drop (index + 1) columns) (suc index) (2 * found + d)) marks next)

-- ---- no GROUPING is long
within_limit : (n : ℕ) → nat_lt 16 n ≡ false → n ≤ 16
within_limit n e = grind (arith, nat_tests)

pub short_columns : (i : Item ℕ) (columns : List ℕ) → i ≡ item.Grouping columns → is_long i ≡ false → length columns ≤ 16
short_columns i columns is short = within_limit (length columns) (sym (ap is_long is) ∙ short)

neither : (a b : Bool) → (a || b) ≡ false → (a ≡ false) × (b ≡ false)
neither true b e = absurd cc
neither false b e = (refl, e)

pub short_at : (items : List (Item ℕ)) (index : ℕ) (i : Item ℕ) → list_any is_long items ≡ false → index < length items → i ≡ get_or items index i → is_long i ≡ false
short_at [] index i short within is = absurd (omega arith)
short_at (x ∷ items) zero i short within is = ap is_long is ∙ (neither (is_long x) (list_any is_long items) short).0
short_at (x ∷ items) (suc index) i short within is = short_at items index i (neither (is_long x) (list_any is_long items) short).1 (omega arith) is

-- none of the first items, and none behind them
pub short_front : (items : List (Item ℕ)) (n : ℕ) → list_any is_long items ≡ false → list_any is_long (take n items) ≡ false
short_front items zero short = refl
short_front [] (suc n) short = refl
short_front (x ∷ items) (suc n) short =
    let both = neither (is_long x) (list_any is_long items) short in
    ap₂ (λ (a b : Bool). a || b) both.0 (short_front items n both.1)

pub short_behind : (items : List (Item ℕ)) (n : ℕ) → list_any is_long items ≡ false → list_any is_long (drop n items) ≡ false
short_behind items zero short = short
short_behind [] (suc n) short = refl
short_behind (x ∷ items) (suc n) short = short_behind items n (neither (is_long x) (list_any is_long items) short).1
