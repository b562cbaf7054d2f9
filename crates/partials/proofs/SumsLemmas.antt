-- A sum that is written in decimal is read back.
use Rattle.std.proofs.Common.{Bor, ◌≡◌, ◌≢◌, ◌<◌, ◌^◌, ◌∷◌, [], ℕ, suc, List, Option, Some, None, refl, ap, sym, ◌∙◌, inl, inr, arith}
use Rattle.std.proofs.lemmas.Bool.{cases_Bool, eqb-true}
use Rattle.std.proofs.lemmas.Option.{same_Some}
use Rattle.std.proofs.lemmas.Fmt.{decimal_is_IsNumeral_wide}
use Rattle.std.specs.Prelude.{FitsSigned, MatchOption, decimal, option_map, ℤ, pos, negsuc, ◌==◌}
use Rattle.std.specs.Fmt.{signed_decimal}
use Rattle.std.specs.Int.{w128}
use Rattle.std.specs.Char.{digit_value}
use Rattle.std.specs.Str.Parse.{AllDigits}
use Rattle.serde_json.specs.Data.{Data, string}
use Rattle.serde_json.specs.Find.{as_str}
use Rattle.partials.specs.Spelling.{behind_minus}

-- what is found behind a minus
pub stripped : (bs : List ℕ) (r : Option (Bor (List ℕ))) → MatchOption r ((rest : List ℕ) → bs ≢ 45 ∷ rest) (λ x. bs ≡ 45 ∷ x.now) → option_map (λ s. s.now) r ≡ behind_minus bs
stripped [] None none = refl
stripped [] (Some x) is = absurd (cc)
stripped (b ∷ bs) None none = elim (cases_Bool (b == 45)) [
  | inl minus ↦ let same : b ≡ 45 = eqb-true b 45 minus in absurd (none bs (ap (λ c. c ∷ bs) same))
  | inr other ↦ rw other refl
]
stripped (b ∷ bs) (Some x) is =
    let first : b ≡ 45 = cc in
    let rest : bs ≡ x.now = cc in
    rw (first, rest) refl

no_minus : (ds : List ℕ) → AllDigits 10 ds → behind_minus ds ≡ None
no_minus [] all = refl
no_minus (d ∷ ds) all = elim (cases_Bool (d == 45)) [
  | inl minus ↦ let same : d ≡ 45 = eqb-true d 45 minus in let low : digit_value 45 < 10 = rw same at all.0 in absurd (omega arith)
  | inr other ↦ rw other refl
]

-- digits have no minus before them
pub no_minus_before : (n : ℕ) → n < 2 ^ 127 → behind_minus (decimal n) ≡ None
no_minus_before n small = let is = decimal_is_IsNumeral_wide n (omega arith) in no_minus (decimal n) is.0.1

-- what a string has
pub text_is : (d : Data) (s text : List ℕ) (r : Option (Bor (List ℕ))) (x : Bor (List ℕ)) → d ≡ string s → option_map (λ t. t.now) r ≡ as_str d → r ≡ Some x → x.now ≡ s
text_is d s text r x is found some = same_Some _ _ (sym (ap (option_map (λ t. t.now)) some) ∙ found ∙ ap as_str is)

-- the sum of a text with a minus
pub below_read : (sum : ℤ) (text digits : List ℕ) (r : Option ℤ) → text ≡ signed_decimal sum → FitsSigned w128 sum → behind_minus text ≡ Some digits →
    ((n : ℕ) → n < 2 ^ 127 → digits ≡ decimal (suc n) → r ≡ Some (negsuc n)) → r ≡ Some sum
below_read (pos n) text digits r is fits minus read =
    let small : n < 2 ^ 127 = let f = fits.sfits in omega arith in
    let none : behind_minus text ≡ None = ap behind_minus is ∙ no_minus_before n small in
    absurd (cc)
below_read (negsuc n) text digits r is fits minus read =
    let small : n < 2 ^ 127 = let f = fits.sfits in omega arith in
    read n small (same_Some _ _ (sym minus ∙ ap behind_minus is))
