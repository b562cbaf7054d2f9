-- A list cut by a digit of its elements, and joined again.
use Rattle.std.proofs.Common.{◌≡◌, ◌≢◌, ℕ, ◌+◌, ◌<◌, ◌≤◌, suc, zero, Bool, true, false, cond, List, [], ◌∷◌, ◌++◌, refl, ap, ◌∙◌, arith, inl, inr}
use Rattle.std.specs.List.{AllByRecursion, filter, flat_map, range_with_len}
use Rattle.std.proofs.lemmas.Bool.{cases_lt}
use Rattle.std.proofs.lemmas.Grind.{flat_map-append}
use Rattle.std.specs.Bool.{⊤}

pub flat_map-same : {X Y : Type 0} (f g : Y → List X) → ((y : Y) → f y ≡ g y) → (ys : List Y) → flat_map f ys ≡ flat_map g ys
flat_map-same f g same [] = refl
flat_map-same f g same (y ∷ ys) = rw (same y, flat_map-same f g same ys) refl

-- lists of lists, joined twice
pub flat_map-twice : {X Y : Type 0} (f : Y → List (List X)) (ys : List Y) →
    flat_map (λ x. x) (flat_map f ys) ≡ flat_map (λ y. flat_map (λ x. x) (f y)) ys
flat_map-twice f [] = refl
flat_map-twice f (y ∷ ys) =
    flat_map-append (λ x. x) (f y) (flat_map f ys)
    ∙ ap (λ l. flat_map (λ x. x) (f y) ++ l) (flat_map-twice f ys)

module _ {X : Type 0} (p : X → Bool) where
  twice_kept : (q : X → Bool) (b : Bool) (x : X) (xs ys : List X) → (p x ≡ true → b ≡ true) →
      filter p xs ≡ ys → filter p (cond b (x ∷ xs) xs) ≡ cond (p x) (x ∷ ys) ys
  twice_kept q true x xs ys implies rest = rw rest refl
  twice_kept q false x xs ys implies rest = by_test (p x) refl
    where
      by_test : (c : Bool) → p x ≡ c → filter p xs ≡ cond c (x ∷ ys) ys
      by_test true is = absurd (cc (implies is))
      by_test false is = rest

  -- a sharper test after another
  pub filter_twice : (q : X → Bool) → ((x : X) → p x ≡ true → q x ≡ true) → (xs : List X) →
      filter p (filter q xs) ≡ filter p xs
  filter_twice q implies [] = refl
  filter_twice q implies (x ∷ xs) =
      twice_kept q (q x) x (filter q xs) (filter p xs) (implies x) (filter_twice q implies xs)

module _ {X : Type 0} (dig : X → ℕ) (test : ℕ → X → Bool) where
  -- the test of an element's own digit passes, and no other
  pub record Tells (x : X) : Type 0 where
    pub own : test (dig x) x ≡ true
    pub others : (d : ℕ) → d ≢ dig x → test d x ≡ false

  -- the digits do not fall
  abbrev pub Climbs : List X → Type 0
  Climbs [] = ⊤
  Climbs (x ∷ xs) = AllByRecursion (λ y. dig x ≤ dig y) xs × Climbs xs

  none_of : (d : ℕ) (x : X) (xs : List X) → d < dig x → AllByRecursion Tells xs → AllByRecursion (λ y. dig x ≤ dig y) xs →
      filter (test d) xs ≡ []
  none_of d x [] lt tells above = refl
  none_of d x (y ∷ ys) lt tells above =
      let over : dig x ≤ dig y = above.0 in
      let other : test d y ≡ false = tells.0.others d (λ e. absurd (omega arith)) in
      rw other (none_of d x ys lt tells.1 above.1)

  skipped : (b n : ℕ) (x : X) (xs : List X) → Tells x → dig x < b →
      flat_map (λ d. filter (test d) (x ∷ xs)) (range_with_len b n) ≡ flat_map (λ d. filter (test d) xs) (range_with_len b n)
  skipped b zero x xs tells lt = refl
  skipped b (suc n) x xs tells lt =
      let other : test b x ≡ false = tells.others b (λ e. absurd (omega arith)) in
      rw other (ap (λ l. filter (test b) xs ++ l) (skipped (b + 1) n x xs tells (omega arith)))

  placed : (n a : ℕ) (x : X) (xs : List X) → Tells x → AllByRecursion Tells xs → AllByRecursion (λ y. dig x ≤ dig y) xs →
      a ≤ dig x → dig x < a + n →
      flat_map (λ d. filter (test d) (x ∷ xs)) (range_with_len a n) ≡ x ∷ flat_map (λ d. filter (test d) xs) (range_with_len a n)
  placed zero a x xs tells all above low high = absurd (omega arith)
  placed (suc n) a x xs tells all above low high = elim (cases_lt a (dig x)) [
    | inl before ↦
        let other : test a x ≡ false = tells.others a (λ e. absurd (omega arith)) in
        rw (other, none_of a x xs before all above) (placed n (a + 1) x xs tells all above (omega arith) (omega arith))
    | inr after ↦
        let here : dig x ≡ a = omega arith in
        let own : test a x ≡ true = rw here at tells.own in
        rw own (ap (λ l. x ∷ (filter (test a) xs ++ l)) (skipped (a + 1) n x xs tells (omega arith)))
  ]

  nothing_joined : (ds : List ℕ) → flat_map (λ d. filter (test d) []) ds ≡ []
  nothing_joined [] = refl
  nothing_joined (d ∷ ds) = nothing_joined ds

  -- the parts of each digit, joined in order, are the list
  pub parts_joined : (n : ℕ) (xs : List X) → AllByRecursion Tells xs → Climbs xs → AllByRecursion (λ x. dig x < n) xs →
      flat_map (λ d. filter (test d) xs) (range_with_len 0 n) ≡ xs
  parts_joined n [] tells climbs low = nothing_joined (range_with_len 0 n)
  parts_joined n (x ∷ xs) tells climbs low =
      let first : dig x < n = low.0 in
      placed n 0 x xs tells.0 tells.1 climbs.0 (omega arith) (omega arith)
      ∙ ap (λ l. x ∷ l) (parts_joined n xs tells.1 climbs.1 low.1)
