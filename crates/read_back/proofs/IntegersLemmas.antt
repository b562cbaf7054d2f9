-- An integer of 64 bits that is written in decimal is read back.
use Rattle.std.proofs.Common.{◌≡◌, ◌<◌, ◌≤◌, ◌^◌, ◌∷◌, ◌∙◌, [], ℕ, suc, List, Some, IsUtf8, refl, ap, true, false, inl, inr, arith, length}
use Rattle.std.proofs.lemmas.Bool.{cases_Bool}
use Rattle.std.proofs.lemmas.Bool.Decides.{nat_tests}
use Rattle.std.proofs.lemmas.Fmt.{decimal_is_IsNumeral}
use Rattle.std.specs.Prelude.{FitsSigned, ℤ, pos, negsuc, nat_le, nat_lt, option_and_then}
use Rattle.std.specs.Char.{digit_value, is_ascii_digit}
use Rattle.std.specs.Fmt.{decimal, signed_decimal}
use Rattle.std.specs.Int.{w64}
use Rattle.std.specs.List.{list_all}
use Rattle.std.specs.Str.Parse.{AllDigits, digits_value, starts_with_minus}
use Rattle.cells.specs.Integers.{integer_of, natural_of, negative, positive}
use Rattle.cells.specs.Limits.{integer_limit}
use Rattle.read_back.proofs.TextsLemmas.{ascii_then, digits_utf8}

no_digit : (c : ℕ) → is_ascii_digit c ≡ false → ¬ (digit_value c < 10)
no_digit c e h = grind arith

all_digits : (ds : List ℕ) → AllDigits 10 ds → list_all is_ascii_digit ds ≡ true
all_digits [] all = refl
all_digits (d ∷ ds) all = elim (cases_Bool (is_ascii_digit d)) [
  | inl digit ↦ rw (digit, all_digits ds all.1) refl
  | inr other ↦ absurd (no_digit d other all.0)
]

decimal_digits : (n : ℕ) → n < 2 ^ 64 → list_all is_ascii_digit (decimal n) ≡ true
decimal_digits n small = all_digits (decimal n) (decimal_is_IsNumeral n small).0.1

natural_at : (ds : List ℕ) → 0 < length ds → list_all is_ascii_digit ds ≡ true → natural_of ds ≡ Some (digits_value 10 ds)
natural_at [] some all = absurd (omega arith)
natural_at (d ∷ ds) some all = rw all refl

natural_back : (n : ℕ) → n < 2 ^ 64 → natural_of (decimal n) ≡ Some n
natural_back n small =
    let is = decimal_is_IsNumeral n small in
    natural_at (decimal n) is.0.0 (decimal_digits n small) ∙ ap Some is.1

digit_first : (ds : List ℕ) → list_all is_ascii_digit ds ≡ true → starts_with_minus ds ≡ false
digit_first [] all = refl
digit_first (d ∷ ds) all = elim (cases_Bool (is_ascii_digit d)) [
  | inl digit ↦ grind (arith, nat_tests)
  | inr other ↦ absurd (let bad : false ≡ true = rw other at all in cc)
]

positive_fits : (n : ℕ) → FitsSigned w64 (pos n) → n < 2 ^ 63
positive_fits n fits = let small = fits.sfits in omega arith

negative_fits : (n : ℕ) → FitsSigned w64 (negsuc n) → suc n ≤ 2 ^ 63
negative_fits n fits = let small = fits.sfits in omega arith

pub positive_digits : (n : ℕ) → FitsSigned w64 (pos n) → list_all is_ascii_digit (decimal n) ≡ true
positive_digits n fits = let small = positive_fits n fits in decimal_digits n (omega arith)

pub integer_back : (n : ℤ) → FitsSigned w64 n → integer_of (signed_decimal n) ≡ Some n
integer_back (pos n) fits =
    let small = positive_fits n fits in
    let below : nat_lt n integer_limit ≡ true = grind (arith, nat_tests) in
    rw (digit_first (decimal n) (decimal_digits n (omega arith))) (ap (option_and_then positive) (natural_back n (omega arith)) ∙ rw below refl)
integer_back (negsuc n) fits =
    let small = negative_fits n fits in
    let within : nat_le (suc n) integer_limit ≡ true = grind (arith, nat_tests) in
    ap (option_and_then negative) (natural_back (suc n) (omega arith)) ∙ rw within refl

pub integer_utf8 : (n : ℤ) → FitsSigned w64 n → IsUtf8 (signed_decimal n)
integer_utf8 (pos n) fits = let small = positive_fits n fits in digits_utf8 (decimal n) (decimal_digits n (omega arith))
integer_utf8 (negsuc n) fits = let small = negative_fits n fits in ascii_then 45 (decimal (suc n)) (omega arith) (digits_utf8 (decimal (suc n)) (decimal_digits (suc n) (omega arith)))
