-- A tuple, cell by cell.
use Rattle.std.specs.Prelude.{◌≡◌, ℕ, ◌+◌, ◌<◌, Bool, true, false, not, List, [], ◌∷◌, ◌++◌, drop, length, take, refl}
use Rattle.std.specs.List.{AllByRecursion, AllZip}
use Rattle.std.specs.List.Sorted.{IsPermutation}
use Rattle.std.proofs.Common.{get_or, ap, sym, ◌∙◌, arith}
use Rattle.std.proofs.lemmas.List.{drop_more, get_or-map, get_or_read, length-map, take_more, take_more_same, take-append-drop}
use Rattle.std.proofs.lemmas.List.Elements.{All-from_recursion, All-get_or, recursion_from_All}
use Rattle.std.proofs.lemmas.List.Sorted.{All-permutation}
use Rattle.cells.specs.CellOrder.{cell_eq, cell_eq-equiv}
use Rattle.cells.specs.declared.cell.Cell.{Cell}
use Rattle.cells.specs.declared.cell.Cell.TheVariants.{Null}
use Rattle.groups.specs.Bags.{picked}

pub one_picked_more : (from : List Cell) (indexes : List ℕ) (cells : List Cell) (i : ℕ) (x y : Cell) → length cells ≡ length indexes → i < length indexes →
    take i cells ≡ take i (picked indexes from) → x ≡ get_or cells i x → y ≡ get_or from (get_or indexes i 0) Null → x ≡ y → take (i + 1) cells ≡ take (i + 1) (picked indexes from)
one_picked_more from indexes cells i x y e h same p r s =
    let n : i < length cells = omega arith in
    let m : i < length (picked indexes from) = omega (arith, length-map indexes (λ k. get_or from k Null)) in
    take_more_same cells (picked indexes from) i Null n m same
    (sym (get_or_read cells i x n p Null) ∙ s ∙ r ∙ sym (get_or-map (λ k. get_or from k Null) indexes i 0 Null h))

pub one_not_picked : (from : List Cell) (indexes : List ℕ) (cells : List Cell) (i : ℕ) (x y : Cell) → i < length cells → i < length indexes →
    x ≡ get_or cells i x → y ≡ get_or from (get_or indexes i 0) Null → cell_eq x y ≡ false → cells ≡ picked indexes from → ⊥
one_not_picked from indexes cells i x y n h p r differs e =
    let same : x ≡ y = get_or_read cells i x n p Null ∙ ap (λ (cs : List Cell). get_or cs i Null) e ∙ get_or-map (λ k. get_or from k Null) indexes i 0 Null h ∙ sym r in
    let alike : cell_eq x y ≡ true = ap (λ c. cell_eq x c) (sym same) ∙ cell_eq-equiv.refl x in
    cc

pub was_true : (b : Bool) → false ≡ not b → b ≡ true
was_true true e = refl
was_true false e = cc

pub was_false : (b : Bool) → true ≡ not b → b ≡ false
was_false true e = cc
was_false false e = refl

-- ---- what holds of each element
module _ {X : Type 0} (P : X → Type 0) where
  pub all_at : (xs : List X) (i : ℕ) (d : X) → AllByRecursion P xs → i < length xs → P (get_or xs i d)
  all_at xs i d all h = All-get_or P xs i d h (All-from_recursion P xs all)

  -- in any order
  pub all_in_order : (xs ys : List X) → IsPermutation xs ys → AllByRecursion P xs → AllByRecursion P ys
  all_in_order xs ys p all = recursion_from_All P ys (All-permutation P xs ys p (All-from_recursion P xs all))

  pub all_push : (xs : List X) (x : X) → AllByRecursion P xs → P x → AllByRecursion P (xs ++ x ∷ [])
  all_push [] x all p = (p, tt)
  all_push (y ∷ xs) x all p = (all.0, all_push xs x all.1 p)

  pub all_both : (xs ys : List X) → AllByRecursion P xs → AllByRecursion P ys → AllByRecursion P (xs ++ ys)
  all_both [] ys all more = more
  all_both (x ∷ xs) ys all more = (all.0, all_both xs ys all.1 more)

  pub all_first : (xs ys : List X) → AllByRecursion P (xs ++ ys) → AllByRecursion P xs
  all_first [] ys all = tt
  all_first (x ∷ xs) ys all = (all.0, all_first xs ys all.1)

pub all_through : {X : Type 0} (P Q : X → Type 0) → ((x : X) → P x → Q x) → (xs : List X) → AllByRecursion P xs → AllByRecursion Q xs
all_through P Q f [] all = tt
all_through P Q f (x ∷ xs) all = (f x all.0, all_through P Q f xs all.1)

-- ---- a list and the element of an index
module _ {X : Type 0} (xs : List X) (i : ℕ) (d x : X) (h : i < length xs) (is : x ≡ get_or xs i d) where
  pub take_next : take (i + 1) xs ≡ take i xs ++ x ∷ []
  take_next = take_more xs i d h ∙ ap (λ y. take i xs ++ y ∷ []) (sym is)

  pub cut_list : xs ≡ take i xs ++ x ∷ drop (i + 1) xs
  cut_list = sym (take-append-drop i xs) ∙ ap (λ l. take i xs ++ l) (drop_more xs i d h ∙ ap (λ y. y ∷ drop (i + 1) xs) (sym is))

-- ---- two lists beside each other
pub zip_push : {A B : Type 0} (R : A → B → Type 0) (xs : List A) (ys : List B) (x : A) (y : B) → AllZip R xs ys → R x y → AllZip R (xs ++ x ∷ []) (ys ++ y ∷ [])
zip_push R [] [] x y all one = (one, tt)
zip_push R [] (b ∷ ys) x y all one = absurd all
zip_push R (a ∷ xs) [] x y all one = absurd all
zip_push R (a ∷ xs) (b ∷ ys) x y all one = (all.0, zip_push R xs ys x y all.1 one)
