-- The integers that `parse` reads are those that a field spells.
use Rattle.std.proofs.Common.{arith, refl, ◌≡◌, ◌≢◌, ◌<◌, ◌^◌, ap, sym, ◌∙◌, inl, inr, slice_index, ℕ, zero, suc, pos, neg_ℤ, List, [], ◌∷◌, true, false, drop, Option, Some, None, option_and_then, nat_le, nat_lt, FitsSigned, Result, Ok, Err, ◌==◌, SomeIff}
use Rattle.std.proofs.lemmas.Bool.{cases_Bool}
use Rattle.std.proofs.lemmas.Bool.Decides.{nat_tests}
use Rattle.std.specs.Char.{digit_value, is_ascii_digit}
use Rattle.std.specs.Int.{w64}
use Rattle.std.specs.List.{list_all}
use Rattle.std.specs.Result.{OkIff, result_ok}
use Rattle.std.specs.Str.Parse.{AllDigits, IsNumeral, digits_value, signed_digits_value, starts_with_minus, without_leading_plus, without_leading_sign}
use Rattle.cells.specs.Integers.{integer_of, natural_of, negative, positive, unsigned, whole_number_of}

digit : (c : ℕ) → is_ascii_digit c ≡ true → digit_value c < 10
digit c e = grind arith

no_digit : (c : ℕ) → is_ascii_digit c ≡ false → ¬ (digit_value c < 10)
no_digit c e h = grind arith

digits : (ds : List ℕ) → list_all is_ascii_digit ds ≡ true → AllDigits 10 ds
digits [] e = tt
digits (d ∷ ds) e = elim (cases_Bool (is_ascii_digit d)) [
  | inl y ↦ (digit d y, digits ds (rw y at e))
  | inr n ↦ absurd (let bad : false ≡ true = rw n at e in cc)
]

no_digits : (ds : List ℕ) → list_all is_ascii_digit ds ≡ false → ¬ (AllDigits 10 ds)
no_digits [] e h = cc
no_digits (d ∷ ds) e h = elim (cases_Bool (is_ascii_digit d)) [
  | inl y ↦ no_digits ds (rw y at e) h.1
  | inr n ↦ no_digit d n h.0
]

natural_is : (ds : List ℕ) → SomeIff (natural_of ds) (IsNumeral 10 ds) (digits_value 10 ds)
natural_is [] = λ h. omega arith
natural_is (d ∷ ds) = elim (cases_Bool (list_all is_ascii_digit (d ∷ ds))) [
  | inl y ↦ rw y ((omega arith, digits (d ∷ ds) y), refl)
  | inr n ↦ rw n (λ h. no_digits (d ∷ ds) n h.1)
]

negative_is : (n : ℕ) → SomeIff (negative n) (FitsSigned w64 (neg_ℤ (pos n))) (neg_ℤ (pos n))
negative_is zero = (record { sfits = omega arith }, refl)
negative_is (suc n) = elim (cases_Bool (nat_le (suc n) (2 ^ 63))) [
  | inl y ↦ rw y (record { sfits = grind (arith, nat_tests) }, refl)
  | inr n ↦ rw n (λ h. let small = h.sfits in grind (arith, nat_tests))
]

positive_is : (n : ℕ) → SomeIff (positive n) (FitsSigned w64 (pos n)) (pos n)
positive_is n = elim (cases_Bool (nat_lt n (2 ^ 63))) [
  | inl y ↦ rw y (record { sfits = grind (arith, nat_tests) }, refl)
  | inr n ↦ rw n (λ h. let small = h.sfits in grind (arith, nat_tests))
]

weaker : {T : Type 0} (o : Option T) (P Q : Type 0) (v : T) → P → SomeIff o Q v → SomeIff o (P × Q) v
weaker None P Q v p h = λ b. h b.1
weaker (Some x) P Q v p h = ((p, h.0), h.1)

-- a test and then another
both_is : {A : Type 0} (o : Option ℕ) (next : ℕ → Option A) (P Q : Type 0) (n : ℕ) (v : A)
    → SomeIff o P n → SomeIff (next n) Q v → SomeIff (option_and_then next o) (P × Q) v
both_is None next P Q n v h k = λ b. h b.0
both_is (Some m) next P Q n v h k = weaker (next m) P Q v h.0 (rw h.1 k)

pub integer_is : (bs : List ℕ) → slice_index bs 0 ≢ 43
    → SomeIff (integer_of bs) (IsNumeral 10 (without_leading_sign bs) × FitsSigned w64 (signed_digits_value 10 bs)) (signed_digits_value 10 bs)
integer_is bs h = elim (cases_Bool (starts_with_minus bs)) [
  | inl y ↦ rw y (both_is (natural_of (drop 1 bs)) negative _ _ _ _ (natural_is (drop 1 bs)) (negative_is (digits_value 10 (drop 1 bs))))
  | inr n ↦ let plain : without_leading_plus bs ≡ bs = let other : (slice_index bs 0 == 43) ≡ false = grind (arith, nat_tests) in rw other refl in
      rw (n, plain) (both_is (natural_of bs) positive _ _ _ _ (natural_is bs) (positive_is (digits_value 10 bs)))
]

unsigned_is : (n : ℕ) → SomeIff (unsigned n) (n < 2 ^ 64) n
unsigned_is n = elim (cases_Bool (nat_lt n (2 ^ 64))) [
  | inl y ↦ rw y (grind (arith, nat_tests), refl)
  | inr l ↦ rw l (λ h. grind (arith, nat_tests))
]

pub whole_number_is : (bs : List ℕ) → slice_index bs 0 ≢ 43
    → SomeIff (whole_number_of bs) (IsNumeral 10 (without_leading_plus bs) × (digits_value 10 (without_leading_plus bs) < 2 ^ 64)) (digits_value 10 (without_leading_plus bs))
whole_number_is bs h =
    let plain : without_leading_plus bs ≡ bs = let other : (slice_index bs 0 == 43) ≡ false = grind (arith, nat_tests) in rw other refl in
    rw plain (both_is (natural_of bs) unsigned _ _ _ _ (natural_is bs) (unsigned_is (digits_value 10 bs)))

pub same_answer : {A E : Type 0} (r : Result A E) (o : Option A) (P : Type 0) (v : A) → OkIff r P v → SomeIff o P v → result_ok r ≡ o
same_answer (Ok x) (Some y) P v a b = ap Some (a.1 ∙ sym b.1)
same_answer (Ok x) None P v a b = absurd (b a.0)
same_answer (Err e) (Some y) P v a b = absurd (a b.0)
same_answer (Err e) None P v a b = refl
