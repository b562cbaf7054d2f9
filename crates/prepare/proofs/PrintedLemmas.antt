-- Which fields are integers as they are printed.
use Rattle.std.proofs.Common.{◌≡◌, ◌≢◌, ◌<◌, ◌^◌, ◌==◌, ℕ, zero, suc, Bool, true, false, List, [], ◌∷◌, drop, length, get_or, inl, inr, refl, ap, subst, sym, ◌∙◌, arith, rules}
use Rattle.std.proofs.lemmas.Bool.{cases_Bool}
use Rattle.std.proofs.lemmas.Bool.Decides.{nat_tests}
use Rattle.std.proofs.lemmas.Fmt.{decimal-digits_value, decimal_digit, first_decimal}
use Rattle.std.proofs.lemmas.Slice.Eq.{bytes_eq-Decides}
use Rattle.std.proofs.lemmas.Str.Parse.{IsNumeralModel, numerals_by_value}
use Rattle.std.specs.Char.{is_ascii_digit}
use Rattle.std.specs.Fmt.{decimal, signed_decimal}
use Rattle.std.specs.List.{list_all}
use Rattle.std.specs.Option.{option_map_or}
use Rattle.std.specs.Prelude.{ℤ, pos, neg_ℤ, Option, Some, None, bytes_eq, is_some, nat_le, nat_lt, option_and_then}
use Rattle.std.specs.Str.Parse.{digits_value}
use Rattle.cells.specs.Integers.{integer_of, natural_of, negative, positive}
use Rattle.prepare.specs.Proposals.{is_padded, is_printed}

own : IsNumeralModel (λ ds. list_all is_ascii_digit ds ≡ true) (digits_value 10)
own = numerals_by_value _ (search rules)

-- ---- what tests tell

is_false : (b : Bool) → (b ≡ true → ⊥) → b ≡ false
is_false true none = absurd (none refl)
is_false false none = refl

-- a number that is found is printed so
module _ (field : List ℕ) where
  told_so : (o : Option ℤ) → ((z : ℤ) → o ≡ Some z → signed_decimal z ≡ field) → is_some o ≡ option_map_or (λ z. bytes_eq (signed_decimal z) field) o false
  told_so None so = refl
  told_so (Some z) so = sym ((bytes_eq-Decides (signed_decimal z) field).1 (so z refl))

  told_other : (o : Option ℤ) → ((z : ℤ) → o ≡ Some z → signed_decimal z ≢ field) → option_map_or (λ z. bytes_eq (signed_decimal z) field) o false ≡ false
  told_other None other = refl
  told_other (Some z) other = is_false (bytes_eq (signed_decimal z) field) (λ same. other z refl ((bytes_eq-Decides (signed_decimal z) field).0 same))

-- ---- what a number was found in

record Found (f : ℕ → Option ℤ) (ds : List ℕ) (z : ℤ) : Type 0 where
  number : ℕ
  all : list_all is_ascii_digit ds ≡ true
  long : 0 < length ds
  value : number ≡ digits_value 10 ds
  fits : f number ≡ Some z

found_in : (f : ℕ → Option ℤ) (ds : List ℕ) (z : ℤ) → option_and_then f (natural_of ds) ≡ Some z → Found f ds z
found_in f [] z e = cc
found_in f (d ∷ ds) z e = elim (cases_Bool (list_all is_ascii_digit (d ∷ ds))) [
  | inl all ↦ record { number = digits_value 10 (d ∷ ds); all = all; long = omega arith; value = refl; fits = rw all at e }
  | inr other ↦ absurd (let bad = rw other at e in cc)
]

positive_is : (n : ℕ) (z : ℤ) → positive n ≡ Some z → (n < 2 ^ 63) × (z ≡ pos n)
positive_is n z e = elim (cases_Bool (nat_lt n (2 ^ 63))) [
  | inl small ↦ (grind (arith, nat_tests), let is = rw small at e in cc)
  | inr large ↦ absurd (let bad = rw large at e in cc)
]

negative_is : (n : ℕ) (z : ℤ) → negative n ≡ Some z → (n < 2 ^ 64) × (z ≡ neg_ℤ (pos n))
negative_is n z e = elim (cases_Bool (nat_le n (2 ^ 63))) [
  | inl small ↦ (grind (arith, nat_tests), let is = rw small at e in cc)
  | inr large ↦ absurd (let bad = rw large at e in cc)
]

-- ---- how it is printed

zero_is : decimal 0 ≡ 48 ∷ []
zero_is = decimal_digit 0 (omega arith)

digits_printed : (ds : List ℕ) → list_all is_ascii_digit ds ≡ true → 0 < length ds → (get_or ds 0 0 ≡ 48 → length ds ≡ 1) → digits_value 10 ds < 2 ^ 64 → decimal (digits_value 10 ds) ≡ ds
digits_printed ds all long plain small = decimal-digits_value own ds all long plain small

-- digits that begin with a zero and go on are not
never_padded : (n d : ℕ) (rest : List ℕ) → n < 2 ^ 64 → decimal n ≢ 48 ∷ d ∷ rest
never_padded zero d rest small e = let bad : ◌≡◌ {A = List ℕ} (48 ∷ []) (48 ∷ d ∷ rest) = sym zero_is ∙ e in cc
never_padded (suc n) d rest small e = let first = first_decimal (suc n) (omega arith) small in let bad = rw e at first in absurd (omega (arith, bad))

never_zero : (n : ℕ) (rest : List ℕ) → suc n < 2 ^ 64 → decimal (suc n) ≢ 48 ∷ rest
never_zero n rest small e = let first = first_decimal (suc n) (omega arith) small in let bad = rw e at first in absurd (omega (arith, bad))

-- without a minus
plain_prints : (ds : List ℕ) → (get_or ds 0 0 ≡ 48 → length ds ≡ 1) → (z : ℤ) → option_and_then positive (natural_of ds) ≡ Some z → signed_decimal z ≡ ds
plain_prints ds plain z e =
    let found = found_in positive ds z e in
    let is = positive_is found.number z found.fits in
    let small : digits_value 10 ds < 2 ^ 64 = omega (arith, is.0, found.value) in
    ap signed_decimal is.1 ∙ ap decimal found.value ∙ digits_printed ds found.all found.long plain small

plain_padded : (d : ℕ) (rest : List ℕ) (z : ℤ) → option_and_then positive (natural_of (48 ∷ d ∷ rest)) ≡ Some z → signed_decimal z ≢ 48 ∷ d ∷ rest
plain_padded d rest z e same =
    let found = found_in positive (48 ∷ d ∷ rest) z e in
    let is = positive_is found.number z found.fits in
    never_padded found.number d rest (omega (arith, is.0)) (sym (ap signed_decimal is.1) ∙ same)

-- after a minus
minus_of : (n : ℕ) (ds : List ℕ) → decimal n ≡ ds → (get_or ds 0 0 ≡ 48 → ⊥) → signed_decimal (neg_ℤ (pos n)) ≡ 45 ∷ ds
minus_of zero ds printed other = absurd (other (ap (λ (xs : List ℕ). get_or xs 0 0) (sym printed ∙ zero_is)))
minus_of (suc n) ds printed other = ap (λ rest. 45 ∷ rest) printed

minus_prints : (ds : List ℕ) → (get_or ds 0 0 ≡ 48 → ⊥) → (z : ℤ) → option_and_then negative (natural_of ds) ≡ Some z → signed_decimal z ≡ 45 ∷ ds
minus_prints ds other z e =
    let found = found_in negative ds z e in
    let is = negative_is found.number z found.fits in
    let small : digits_value 10 ds < 2 ^ 64 = omega (arith, is.0, found.value) in
    ap signed_decimal is.1
    ∙ minus_of found.number ds (ap decimal found.value ∙ digits_printed ds found.all found.long (λ first. absurd (other first)) small) other

minus_other : (n : ℕ) (rest : List ℕ) → n < 2 ^ 64 → signed_decimal (neg_ℤ (pos n)) ≢ 45 ∷ 48 ∷ rest
minus_other zero rest small e = let bad : ◌≡◌ {A = List ℕ} (48 ∷ []) (45 ∷ 48 ∷ rest) = sym zero_is ∙ e in absurd (omega (arith, ap (λ (xs : List ℕ). get_or xs 0 0) bad))
minus_other (suc n) rest small e = never_zero n rest small (ap (drop 1) e)

minus_padded : (rest : List ℕ) (z : ℤ) → option_and_then negative (natural_of (48 ∷ rest)) ≡ Some z → signed_decimal z ≢ 45 ∷ 48 ∷ rest
minus_padded rest z e same =
    let found = found_in negative (48 ∷ rest) z e in
    let is = negative_is found.number z found.fits in
    minus_other found.number rest is.0 (sym (ap signed_decimal is.1) ∙ same)

-- ---- fields

zero_first : (a b : ℕ) (rest : List ℕ) → a ≡ 48 → is_printed (a ∷ b ∷ rest) ≡ false
zero_first a b rest is = subst (λ x. is_printed (x ∷ b ∷ rest) ≡ false) (sym is)
    (told_other (48 ∷ b ∷ rest) (option_and_then positive (natural_of (48 ∷ b ∷ rest))) (plain_padded b rest))

minus_first : (a b : ℕ) (rest : List ℕ) → a ≡ 45 → b ≡ 48 → is_printed (a ∷ b ∷ rest) ≡ false
minus_first a b rest minus zero_next =
    subst (λ x. is_printed (x ∷ b ∷ rest) ≡ false) (sym minus)
    (subst (λ y. is_printed (45 ∷ y ∷ rest) ≡ false) (sym zero_next)
    (told_other (45 ∷ 48 ∷ rest) (option_and_then negative (natural_of (48 ∷ rest))) (minus_padded rest)))

pub padded_is_other : (field : List ℕ) → is_padded field ≡ true → is_printed field ≡ false
padded_is_other [] padded = cc
padded_is_other (a ∷ []) padded = cc
padded_is_other (a ∷ b ∷ rest) padded = elim (cases_Bool (a == 48)) [
  | inl first ↦ zero_first a b rest (grind (arith, nat_tests))
  | inr other ↦ let both = rw other at padded in minus_first a b rest (grind (arith, nat_tests)) (grind (arith, nat_tests))
]

other_after_minus : (rest : List ℕ) → is_padded (45 ∷ rest) ≡ false → get_or rest 0 0 ≡ 48 → ⊥
other_after_minus [] plain first = absurd (omega (arith, first))
other_after_minus (b ∷ more) plain first = grind (arith, nat_tests)

alone : (a : ℕ) (rest : List ℕ) → is_padded (a ∷ rest) ≡ false → a ≡ 48 → length (a ∷ rest) ≡ 1
alone a [] plain first = refl
alone a (b ∷ more) plain first = absurd (grind (arith, nat_tests))

printed_minus : (a : ℕ) (rest : List ℕ) → a ≡ 45 → is_padded (a ∷ rest) ≡ false → is_some (integer_of (a ∷ rest)) ≡ is_printed (a ∷ rest)
printed_minus a rest minus = subst (λ x. is_padded (x ∷ rest) ≡ false → is_some (integer_of (x ∷ rest)) ≡ is_printed (x ∷ rest)) (sym minus)
    (λ plain. told_so (45 ∷ rest) (option_and_then negative (natural_of rest)) (minus_prints rest (other_after_minus rest plain)))

pub printed_is : (field : List ℕ) → is_padded field ≡ false → is_some (integer_of field) ≡ is_printed field
printed_is [] plain = refl
printed_is (a ∷ rest) plain = elim (cases_Bool (a == 45)) [
  | inl minus ↦ printed_minus a rest (grind (arith, nat_tests)) plain
  | inr other ↦ told_so (a ∷ rest) (integer_of (a ∷ rest)) (λ z e. plain_prints (a ∷ rest) (alone a rest plain) z (rw other at e))
]
