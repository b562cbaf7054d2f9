-- Integers that fields spell: each is a text.
use Rattle.std.proofs.Common.{◌≡◌, ◌<◌, ℕ, inl, inr, true, false, List, [], ◌∷◌, drop, refl, sym, ap, arith}
use Rattle.std.proofs.lemmas.Bool.{cases_Bool}
use Rattle.std.proofs.lemmas.Bool.Decides.{nat_tests}
use Rattle.std.proofs.lemmas.Str.{IsUtf8-from_ascii}
use Rattle.std.proofs.lemmas.Str.Ascii.{IsAscii-cons, IsAscii-nil}
use Rattle.std.specs.Char.{is_ascii_digit}
use Rattle.std.specs.List.{list_all}
use Rattle.std.specs.Prelude.{IsUtf8, ℤ, Option, None, option_and_then}
use Rattle.std.specs.Str.{IsAscii}
use Rattle.std.specs.Str.Parse.{starts_with_minus}
use Rattle.cells.specs.Integers.{integer_of, natural_of, negative, positive}

digit_ascii : (c : ℕ) → is_ascii_digit c ≡ true → c < 128
digit_ascii c is = grind arith

digits_ascii : (ds : List ℕ) → list_all is_ascii_digit ds ≡ true → IsAscii ds
digits_ascii [] all = IsAscii-nil
digits_ascii (d ∷ ds) all = elim (cases_Bool (is_ascii_digit d)) [
  | inl is ↦ IsAscii-cons d ds (digit_ascii d is) (digits_ascii ds (rw is at all))
  | inr no_digit ↦ absurd (let bad : false ≡ true = rw no_digit at all in cc)
]

no_natural : (ds : List ℕ) → (IsAscii ds → ⊥) → ◌≡◌ {A = Option ℕ} (natural_of ds) None
no_natural [] none = refl
no_natural (d ∷ ds) none = elim (cases_Bool (list_all is_ascii_digit (d ∷ ds))) [
  | inl all ↦ absurd (none (digits_ascii (d ∷ ds) all))
  | inr other ↦ rw other refl
]

-- behind a minus
no_text_after : (bs : List ℕ) → starts_with_minus bs ≡ true → (IsAscii bs → ⊥) → IsAscii (drop 1 bs) → ⊥
no_text_after [] minus none ascii = none IsAscii-nil
no_text_after (b ∷ bs) minus none ascii = let is : b < 128 = grind (arith, nat_tests) in none (IsAscii-cons b bs is ascii)

pub no_integer : (bs : List ℕ) → (IsUtf8 bs → ⊥) → ◌≡◌ {A = Option ℤ} None (integer_of bs)
no_integer bs none = elim (cases_Bool (starts_with_minus bs)) [
  | inl minus ↦ rw minus (sym (ap (option_and_then negative) (no_natural (drop 1 bs) (no_text_after bs minus (λ ascii. none (IsUtf8-from_ascii bs ascii))))))
  | inr plain ↦ rw plain (sym (ap (option_and_then positive) (no_natural bs (λ ascii. none (IsUtf8-from_ascii bs ascii)))))
]
