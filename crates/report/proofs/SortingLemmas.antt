-- A stable sort has one outcome, and this is what rows laid one by one make.
use Rattle.std.proofs.Common.{◌≡◌, ◌∙◌, ◌≤◌, ◌<◌, ◌&&◌, ℕ, suc, Bool, true, false, cond, not, Result, Ok, Err, List, [], ◌∷◌, refl, sym, ap, ap₂, length, inl, inr, arith}
use Rattle.std.proofs.lemmas.Bool.{cases_Bool}
use Rattle.std.proofs.lemmas.Fn.{always_returns_same}
use Rattle.std.proofs.lemmas.List.Elements.{All-from_get_or, recursion_from_All}
use Rattle.std.proofs.lemmas.List.Sorted.{sorted_far}
use Rattle.std.specs.Borrow.{Bor}
use Rattle.std.specs.Cmp.{IsStrictWeakOrder}
use Rattle.std.specs.Fn.{Called, ComparesAs, Mut}
use Rattle.std.specs.List.{AllByRecursion, filter}
use Rattle.std.specs.List.Sorted.{IsSortedBy, IsStableBy, ties}
use Rattle.std.specs.Ordering.{is_lt}
use Rattle.std.specs.Prelude.{OnOk, slice_index_or}
use Rattle.std.specs.declared.cmp.Ordering.{Ordering}
use Rattle.report.specs.Arranging.{laid, sorted}

-- no element is above one after it
Rises : {X : Type 0} → (X → X → Bool) → List X → Type 0
Rises lt [] = Unit {0}
Rises lt (x ∷ xs) = AllByRecursion (λ y. lt y x ≡ false) xs × Rises lt xs

module _ {X : Type 0} (lt : X → X → Bool) (o : IsStrictWeakOrder lt) where
  rises_far : (xs : List X) → ((i j : ℕ) (d : X) → i ≤ j → j < length xs → lt (slice_index_or xs j d) (slice_index_or xs i d) ≡ false) → Rises lt xs
  unfolding Rises
  rises_far [] far = tt
  rises_far (x ∷ xs) far = (
    recursion_from_All _ xs (All-from_get_or (λ y. lt y x ≡ false) xs x (λ i within. far 0 (suc i) x (omega arith) (omega (arith, within)))),
    rises_far xs (λ i j d below within. far (suc i) (suc j) d (omega (arith, below)) (omega (arith, within))),
  )

  rises : (xs : List X) → IsSortedBy lt xs → Rises lt xs
  rises xs up = rises_far xs (sorted_far lt o xs up)

  -- ---- what ties

  not_below : (x : X) → lt x x ≡ false
  not_below x = elim (cases_Bool (lt x x)) [ inl is ↦ o.one_way x x is | inr is ↦ is ]

  tied : (x y : X) → lt x y ≡ false → lt y x ≡ false → ties lt x y ≡ true
  tied x y p q = rw (p, q) refl

  ties_self : (x : X) → ties lt x x ≡ true
  ties_self x = tied x x (not_below x) (not_below x)

  neither : (a b : Bool) → (not a && not b) ≡ true → (a ≡ false) × (b ≡ false)
  neither true b is = absurd cc
  neither false true is = absurd cc
  neither false false is = (refl, refl)

  -- ---- two lists that rise and have the same ties

  -- what ties with y is not below the first, so neither is y
  least : (y z : X) (zs front : List X) → AllByRecursion (λ w. lt w z ≡ false) zs → filter (ties lt y) zs ≡ y ∷ front → lt y z ≡ false
  least y z [] front above is = absurd cc
  least y z (w ∷ ws) front above is = elim (cases_Bool (ties lt y w)) [
    | inl tie ↦ o.chain y w z (neither (lt y w) (lt w y) tie).0 above.0
    | inr apart ↦ least y z ws front above.1 (rw apart at is)
  ]

  least_first : (y z : X) (zs front : List X) → AllByRecursion (λ w. lt w z ≡ false) zs → filter (ties lt y) (z ∷ zs) ≡ y ∷ front → lt y z ≡ false
  least_first y z zs front above is = least y z (z ∷ zs) front (not_below z, above) is

  head_is : (x y : X) (xs ys : List X) → x ∷ xs ≡ y ∷ ys → x ≡ y
  head_is x y xs ys is = ap (λ l. slice_index_or l 0 x) is

  rest_is : (b : Bool) (x : X) (xs ys : List X) → cond b (x ∷ xs) xs ≡ cond b (x ∷ ys) ys → xs ≡ ys
  rest_is true x xs ys is = cc
  rest_is false x xs ys is = is

  one_rising : (ys zs : List X) → Rises lt ys → Rises lt zs → ((x : X) → filter (ties lt x) ys ≡ filter (ties lt x) zs) → ys ≡ zs
  unfolding Rises
  one_rising [] [] p q same = refl
  one_rising [] (z ∷ zs) p q same = let bad : [] ≡ z ∷ filter (ties lt z) zs = rw (ties_self z) at (same z) in absurd cc
  one_rising (y ∷ ys) [] p q same = let bad : y ∷ filter (ties lt y) ys ≡ [] = rw (ties_self y) at (same y) in absurd cc
  one_rising (y ∷ ys) (z ∷ zs) p q same =
      let from_y : y ∷ filter (ties lt y) ys ≡ filter (ties lt y) (z ∷ zs) = rw (ties_self y) at (same y) in
      let from_z : filter (ties lt z) (y ∷ ys) ≡ z ∷ filter (ties lt z) zs = rw (ties_self z) at (same z) in
      let tie = tied y z (least_first y z zs _ q.0 (sym from_y)) (least_first z y ys _ p.0 from_z) in
      let heads : y ≡ z = head_is y z _ _ (rw tie at from_y) in
      ap₂ (λ (h : X) (t : List X). h ∷ t) heads
      (one_rising ys zs p.1 q.1 (λ x. rest_is (ties lt x z) z _ _ (rw heads at (same x))))

-- ---- rows laid one by one

module _ {X : Type 0} (cmp : X → X → Ordering) (o : IsStrictWeakOrder (λ x y. is_lt (cmp x y))) where
  abbrev lt : X → X → Bool
  lt x y = is_lt (cmp x y)

  all_laid : (P : X → Type 0) (row : X) (rows : List X) → P row → AllByRecursion P rows → AllByRecursion P (laid cmp row rows)
  all_laid P row [] p all = (p, tt)
  all_laid P row (other ∷ more) p all = elim (cases_Bool (lt other row)) [
    | inl below ↦ rw below (all.0, all_laid P row more p all.1)
    | inr above ↦ rw above (p, all)
  ]

  all_above : (x y : X) (xs : List X) → lt x y ≡ false → AllByRecursion (λ z. lt z x ≡ false) xs → AllByRecursion (λ z. lt z y ≡ false) xs
  all_above x y [] p all = tt
  all_above x y (z ∷ zs) p all = (o.chain z x y all.0 p, all_above x y zs p all.1)

  rises_laid : (row : X) (rows : List X) → Rises lt rows → Rises lt (laid cmp row rows)
  unfolding Rises
  rises_laid row [] up = (tt, tt)
  rises_laid row (other ∷ more) up = elim (cases_Bool (lt other row)) [
    | inl below ↦ rw below (all_laid (λ y. lt y other ≡ false) row more (o.one_way other row below) up.0, rises_laid row more up.1)
    | inr above ↦ rw above ((above, all_above other row more above up.0), up)
  ]

  rises_sorted : (rows : List X) → Rises lt (sorted cmp rows)
  unfolding Rises
  rises_sorted [] = tt
  rises_sorted (row ∷ rows) = rises_laid row (sorted cmp rows) (rises_sorted rows)

  -- two of which one is below the other don't both tie with a third
  swapped : (x row other : X) (rest : List X) → lt other row ≡ true →
      cond (ties lt x other) (other ∷ cond (ties lt x row) (row ∷ rest) rest) (cond (ties lt x row) (row ∷ rest) rest)
      ≡ cond (ties lt x row) (row ∷ cond (ties lt x other) (other ∷ rest) rest) (cond (ties lt x other) (other ∷ rest) rest)
  swapped x row other rest below = elim (cases_Bool (ties lt x other)) [
    | inl first ↦ elim (cases_Bool (ties lt x row)) [
      | inl second ↦ let never = o.chain other x row (neither lt o (lt x other) (lt other x) first).1 (neither lt o (lt x row) (lt row x) second).0 in absurd cc
      | inr apart ↦ rw (first, apart) refl
    ]
    | inr apart ↦ rw apart refl
  ]

  ties_laid : (x row : X) (rows : List X) → filter (ties lt x) (laid cmp row rows) ≡ filter (ties lt x) (row ∷ rows)
  ties_laid x row [] = refl
  ties_laid x row (other ∷ more) = elim (cases_Bool (lt other row)) [
    | inl below ↦ rw below (ap (λ l. cond (ties lt x other) (other ∷ l) l) (ties_laid x row more) ∙ swapped x row other (filter (ties lt x) more) below)
    | inr above ↦ rw above refl
  ]

  ties_sorted : (x : X) (rows : List X) → filter (ties lt x) (sorted cmp rows) ≡ filter (ties lt x) rows
  ties_sorted x [] = refl
  ties_sorted x (row ∷ rows) = ties_laid x row (sorted cmp rows) ∙ ap (λ l. cond (ties lt x row) (row ∷ l) l) (ties_sorted x rows)

  -- the outcome of a stable sort
  pub one_outcome : (rows made : List X) → IsSortedBy lt made → IsStableBy lt rows made → made ≡ sorted cmp rows
  one_outcome rows made up stable = one_rising lt o made (sorted cmp rows) (rises lt o made up) (rises_sorted rows) (λ x. stable x ∙ sym (ties_sorted x rows))

-- ---- what a sort by a closure leaves

-- what is so where the call ends well
pub on_ok_so : {T E A B : Type 0} (r : Result T E) → (A → B) → OnOk r A → OnOk r B
on_ok_so (Ok x) f a = f a
on_ok_so (Err e) f a = tt

-- each call of a closure compares by this order
pub compares_as : {F X : Type 0} (g : Mut F (Bor X × (Bor X × Unit {0})) Ordering) (cmp : X → X → Ordering) (f : F)
    → ((a : Bor X × (Bor X × Unit {0})) (r : Ordering) (same : F) → Called g f a r same → (r ≡ cmp a.0.now a.1.0.now) × (same ≡ f)) → ComparesAs g (λ x y. is_lt (cmp x y)) f
compares_as g cmp f each = always_returns_same g _ f (λ a r same called. let told = each a r same called in (ap is_lt told.0, told.1))
