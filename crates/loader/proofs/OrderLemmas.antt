-- What workers found, in the order of its places: numbers that rise, and are those below n in some order, are those below
-- n in order.
use Rattle.std.proofs.Common.{◌≡◌, Bool, ℕ, zero, suc, ◌+◌, ◌-◌, ◌≤◌, ◌<◌, List, [], ◌∷◌, ◌++◌, All, length, get_or, map, refl, ap, ap₂, sym, subst, ◌∙◌, arith}
use Rattle.std.proofs.lemmas.List.Elements.{All-head, All-tail}
use Rattle.std.proofs.lemmas.List.Sorted.{All-permutation, IsPermutation-map, IsPermutation-sym, IsPermutation-trans, sum_by-IsPermutation}
use Rattle.std.proofs.lemmas.List.Sums.{sum_by-cons}
use Rattle.std.specs.Prelude.{IsPermutation, Vec, sum_by}
use Rattle.std.specs.List.{AllByRecursion, AllZip, concat, flat_map, range_with_len}
use Rattle.std.specs.List.Sorted.{IsNonDecreasingBy}
use Rattle.std.specs.declared.alloc.Global.{Global}
use Rattle.cells.specs.Values.{Table}
use Rattle.cells.specs.declared.cell.Cell.{Cell}
use Rattle.crew.specs.Shares.{AreShared}
use Rattle.loader.specs.Listed.{AreRead, IsFound}
use Rattle.loader.specs.Loads.{IsContent}
use Rattle.loader.specs.Pieces.{rows_of_piece}
use Rattle.loader.specs.declared.loading.Found.{Found}
use Rattle.loader.specs.declared.pieces.Piece.{Piece}
use mathlib.Core.Logic.{dite}
use native.Mathlib.Decide.{ℕ_discrete}

-- ---- numbers that rise

-- how far the numbers lie below v, added up
abbrev below : ℕ → List ℕ → ℕ
below v ns = sum_by (λ n. v - n) ns

-- two lists lie below each number alike
abbrev LieAlike : List ℕ → List ℕ → Type 0
LieAlike ns ms = (v : ℕ) → below v ns ≡ below v ms

below_cons : (v n : ℕ) (ns : List ℕ) → below v (n ∷ ns) ≡ (v - n) + below v ns
below_cons v n ns = sum_by-cons (λ m. v - m) n ns

-- none lies below v
none_below : (v : ℕ) (ns : List ℕ) → ((i : ℕ) → i < length ns → v ≤ get_or ns i 0) → below v ns ≡ 0
none_below v [] above = refl
none_below v (n ∷ ns) above =
    let here : v ≤ n = above 0 (omega arith) in
    let rest = none_below v ns (λ i k. above (suc i) (omega arith)) in
    omega (arith, here, rest, below_cons v n ns)

range_above : (v from count : ℕ) → v ≤ from → below v (range_with_len from count) ≡ 0
range_above v from zero low = refl
range_above v from (suc count) low =
    let rest = range_above v (from + 1) count (omega arith) in
    omega (arith, low, rest, below_cons v from (range_with_len (from + 1) count))

-- each is at most all behind it
abbrev Rises : List ℕ → Type 0
Rises ns = (i j : ℕ) → i ≤ j → j < length ns → get_or ns i 0 ≤ get_or ns j 0

-- the first of rising numbers that lie as a range does is the first of the range
first_is : (n from count : ℕ) (ns : List ℕ) → Rises (n ∷ ns) → LieAlike (n ∷ ns) (range_with_len from (suc count)) → n ≡ from
first_is n from count ns rise alike =
    let low = alike from in
    let low_left = below_cons from n ns in
    let low_right = range_above from from (suc count) (omega arith) in
    let high = alike (from + 1) in
    let high_right = below_cons (from + 1) from (range_with_len (from + 1) count) in
    dite (ℕ_discrete (n - from) 0)
    (λ small. omega (arith, small, low, low_left, low_right))
    (λ large.
    let above : from + 1 ≤ n = omega (arith, large) in
    let none = none_below (from + 1) (n ∷ ns) (λ i k. let r = rise 0 i (omega arith) k in omega (arith, above, r)) in
    absurd (omega (arith, high, high_right, none)))

-- and so is each that follows
is_range : (ns : List ℕ) (from count : ℕ) → Rises ns → LieAlike ns (range_with_len from count) → ns ≡ range_with_len from count
is_range [] from zero rise alike = refl
is_range [] from (suc count) rise alike =
    let high = alike (from + 1) in
    let high_right = below_cons (from + 1) from (range_with_len (from + 1) count) in
    absurd (omega (arith, high, high_right))
is_range (n ∷ ns) from zero rise alike =
    let high = alike (n + 1) in
    let high_left = below_cons (n + 1) n ns in
    absurd (omega (arith, high, high_left))
is_range (n ∷ ns) from (suc count) rise alike =
    let first = first_is n from count ns rise alike in
    let rest = is_range ns (from + 1) count (λ i j le lt. rise (suc i) (suc j) (omega arith) (omega arith)) (λ v.
    let same = alike v in
    let left = below_cons v n ns in
    let right = below_cons v from (range_with_len (from + 1) count) in
    omega (arith, same, left, right, first)) in
    ap₂ (λ (m : ℕ) (ms : List ℕ). m ∷ ms) first rest

-- what holds of all holds of the last
pub at_last : (P : ℕ → Type 0) (ns : List ℕ) (n : ℕ) → AllByRecursion P (ns ++ n ∷ []) → P n
at_last P [] n all = all.0
at_last P (m ∷ ns) n all = at_last P ns n all.1

-- ---- what was found

abbrev pub place_of : Found → ℕ
place_of found = found.place

many : (all : List Found) → length (map place_of all) ≡ length all
many [] = refl
many (found ∷ all) = ap suc (many all)

place_at : (all : List Found) (i : ℕ) (other : Found) → i < length all → get_or (map place_of all) i 0 ≡ place_of (get_or all i other)
place_at [] i other within = absurd (omega arith)
place_at (found ∷ all) zero other within = refl
place_at (found ∷ all) (suc i) other within = place_at all i other (omega arith)

-- the places of what is sorted by them rise
places_rise : (all : List Found) → IsNonDecreasingBy place_of all → Rises (map place_of all)
places_rise [] sorted i j le lt = absurd (omega arith)
places_rise (found ∷ all) sorted i j le lt =
    let long = many (found ∷ all) in
    let low = place_at (found ∷ all) i found (omega (arith, long)) in
    let high = place_at (found ∷ all) j found (omega (arith, long)) in
    rw (low, high) (sorted i j found le (omega (arith, long)))

cons_same : {A : Type 0} (x y : A) (xs ys : List A) → ◌≡◌ {A = List A} (x ∷ xs) (y ∷ ys) → (x ≡ y) × (xs ≡ ys)
cons_same x y xs ys e = (cc, cc)

zip_append : {A B : Type 0} (R : A → B → Type 0) (xs us : List A) (ys vs : List B) → AllZip R xs ys → AllZip R us vs → AllZip R (xs ++ us) (ys ++ vs)
zip_append R [] us [] vs first second = second
zip_append R [] us (y ∷ ys) vs first second = absurd first
zip_append R (x ∷ xs) us [] vs first second = absurd first
zip_append R (x ∷ xs) us (y ∷ ys) vs first second = (first.0, zip_append R xs us ys vs first.1 second)

module _ (hash_of : Cell → ℕ) (takes : Cell → Bool) (t : Table) (pieces : List Piece) where
  -- it is what the piece at its own place reads as
  abbrev Right : Found → Type 0
  Right found = (other : Piece) → IsContent hash_of takes t (rows_of_piece t (get_or pieces found.place other)) found.content

  places_are : (places : List ℕ) (all : List Found) → AllZip (IsFound hash_of takes t pieces) places all → map place_of all ≡ places
  places_are [] [] zip = refl
  places_are [] (found ∷ all) zip = absurd zip
  places_are (place ∷ places) [] zip = absurd zip
  places_are (place ∷ places) (found ∷ all) zip = ap₂ (λ (m : ℕ) (ms : List ℕ). m ∷ ms) zip.0.at (places_are places all zip.1)

  right_at : (places : List ℕ) (all : List Found) → AllZip (IsFound hash_of takes t pieces) places all → All Right all
  right_at [] [] zip k other within = absurd (omega arith)
  right_at [] (found ∷ all) zip k other within = absurd zip
  right_at (place ∷ places) [] zip k other within = absurd zip
  right_at (place ∷ places) (found ∷ all) zip zero other within =
      subst (λ n. (other : Piece) → IsContent hash_of takes t (rows_of_piece t (get_or pieces n other)) found.content) (sym zip.0.at) zip.0.reads
  right_at (place ∷ places) (found ∷ all) zip (suc k) other within = right_at places all zip.1 k other (omega arith)

  -- the results of all shares, one behind another
  of_shares : (shares : List (List ℕ)) (given : List (Vec Found Global)) → AllZip (λ places g. AllZip (IsFound hash_of takes t pieces) places g.items) shares given →
      AllZip (IsFound hash_of takes t pieces) (concat shares) (flat_map (λ g. g.items) given)
  of_shares [] [] zip = tt
  of_shares [] (g ∷ given) zip = absurd zip
  of_shares (places ∷ shares) [] zip = absurd zip
  of_shares (places ∷ shares) (g ∷ given) zip = zip_append (IsFound hash_of takes t pieces) places (concat shares) g.items (flat_map (λ h. h.items) given) zip.0 (of_shares shares given zip.1)

  -- what was found at the places of a range is what the pieces there read as
  read_from : (left : List Piece) (all : List Found) (from : ℕ) → map place_of all ≡ range_with_len from (length left) →
      ((i : ℕ) (other : Piece) → i < length left → get_or pieces (from + i) other ≡ get_or left i other) → All Right all → AreRead hash_of takes t left all
  read_from [] [] from places at right = tt
  read_from [] (found ∷ all) from places at right = absurd (cc)
  read_from (piece ∷ left) [] from places at right = absurd (cc)
  read_from (piece ∷ left) (found ∷ all) from places at right =
      let same = cons_same _ _ _ _ places in
      let there : get_or pieces found.place piece ≡ piece = ap (λ n. get_or pieces n piece) (same.0 ∙ omega arith) ∙ at 0 piece (omega arith) in (
        subst (λ (p : Piece). IsContent hash_of takes t (rows_of_piece t p) found.content) there (All-head Right found all right piece),
        read_from left all (from + 1) same.1 (λ i other k. ap (λ n. get_or pieces n other) (omega arith) ∙ at (suc i) other (omega arith)) (All-tail Right found all right),
      )

  -- the results of all workers, sorted by their places
  pub read_in_order : (count : ℕ) (given : List (Vec Found Global)) (found sorted : List Found) →
      AreShared (λ places g. AllZip (IsFound hash_of takes t pieces) places g.items) count given → count ≡ length pieces → found ≡ flat_map (λ g. g.items) given →
      IsPermutation found sorted → IsNonDecreasingBy place_of sorted → AreRead hash_of takes t pieces sorted
  read_in_order count given found sorted shared counted is moved rise =
      let zip = subst (AllZip (IsFound hash_of takes t pieces) (concat shared.shares)) (sym is) (of_shares shared.shares given shared.given_for) in
      let whole = subst (λ places. IsPermutation places (range_with_len 0 (length pieces))) (sym (places_are (concat shared.shares) found zip))
      (subst (λ n. IsPermutation (concat shared.shares) (range_with_len 0 n)) counted shared.whole) in
      let places = IsPermutation-trans _ _ _ (IsPermutation-sym _ _ (IsPermutation-map place_of found sorted moved)) whole in
      let range = is_range (map place_of sorted) 0 (length pieces) (places_rise sorted rise)
      (λ v. sym (sum_by-IsPermutation (λ n. v - n) (map place_of sorted) (range_with_len 0 (length pieces)) places)) in
      read_from pieces sorted 0 range (λ i other k. ap (λ n. get_or pieces n other) (omega arith)) (All-permutation Right found sorted moved (right_at (concat shared.shares) found zip))
