-- The number at the front of a text.
use Rattle.std.proofs.Common.{◌≡◌, ℕ, suc, zero, ◌+◌, ◌<◌, true, false, ◌||◌, ◌==◌, List, [], ◌∷◌, ◌++◌, get_or, take, drop, Option, Some, None, inl, inr, IsUtf8, IsCharBoundary, refl, sym, ap, ◌∙◌, arith, ℤ, slice_index, option_and_then}
use Rattle.std.specs.List.{list_all, prefix_len}
use Rattle.std.specs.Char.{is_ascii_digit}
use Rattle.std.proofs.lemmas.Bool.{cases_Bool, eqb-true}
use Rattle.std.proofs.lemmas.Bool.Decides.{nat_tests}
use Rattle.std.proofs.lemmas.List.Sums.{prefix_len-le-length}
use Rattle.std.proofs.lemmas.Option.{cond_some, none-some, option_and_then_some}
use Rattle.cells.specs.declared.scan.Class.TheVariants.{Digit}
use Rattle.cells.specs.declared.token.Token.{Token}
use Rattle.cells.specs.declared.token.Token.TheVariants.{Number}
use Rattle.cells.specs.Integers.{integer_of, natural_of, negative, positive}
use Rattle.cells.specs.Scanning.{number_at, number_before, number_form, number_len, number_rest}
use Rattle.cells.specs.Spelling.{Begins, is_in_word}
use Rattle.cells.proofs.BeginsLemmas.{begins_found}
use Rattle.cells.proofs.RunsLemmas.{boundary_at, drop_past, run_ascii, run_boundary, run_of, run_past, take_run}

-- the bytes that `number_len` counts are the form
pub take_number : (text : List ℕ) → take (number_len text) text ≡ number_form text
take_number [] = refl
take_number (b ∷ bs) =
    let next : 1 + prefix_len is_ascii_digit bs ≡ suc (prefix_len is_ascii_digit bs) = omega arith in
    elim (cases_Bool (b == 45)) [
      | inl minus ↦ rw (minus, next) (ap (λ v. v ∷ take (prefix_len is_ascii_digit bs) bs) (eqb-true b 45 minus) ∙ ap (λ l. 45 ∷ l) (take_run is_ascii_digit bs))
      | inr plain ↦ rw plain (take_run is_ascii_digit (b ∷ bs))
    ]

-- and the others follow it
pub drop_number : (text : List ℕ) → drop (number_len text) text ≡ number_rest text
drop_number [] = refl
drop_number (b ∷ bs) =
    let next : 1 + prefix_len is_ascii_digit bs ≡ suc (prefix_len is_ascii_digit bs) = omega arith in
    elim (cases_Bool (b == 45)) [
      | inl minus ↦ rw (minus, next) (drop_past is_ascii_digit bs)
      | inr plain ↦ rw plain (drop_past is_ascii_digit (b ∷ bs))
    ]

-- the form and the rest are the text
number_parts : (text : List ℕ) → text ≡ number_form text ++ number_rest text
number_parts [] = refl
number_parts (b ∷ bs) = elim (cases_Bool (b == 45)) [
  | inl minus ↦ rw minus (ap (λ v. v ∷ bs) (eqb-true b 45 minus) ∙ ap (λ l. 45 ∷ l) (run_past is_ascii_digit bs))
  | inr plain ↦ rw plain (run_past is_ascii_digit (b ∷ bs))
]

-- a byte of ASCII, and then a run of digits
signed_ascii : (b : ℕ) (bs : List ℕ) (k : ℕ) → b < 128 → k < suc (prefix_len is_ascii_digit bs) → get_or (b ∷ bs) k 0 < 128
signed_ascii b bs zero first h = first
signed_ascii b bs (suc k) first h = run_ascii Digit bs k (omega arith)

pub number_boundary : (text : List ℕ) → IsUtf8 text → IsCharBoundary text (number_len text)
number_boundary [] utf8 = run_boundary Digit [] utf8
number_boundary (b ∷ bs) utf8 =
    let next : 1 + prefix_len is_ascii_digit bs ≡ suc (prefix_len is_ascii_digit bs) = omega arith in
    let within = prefix_len-le-length is_ascii_digit bs in
    elim (cases_Bool (b == 45)) [
      | inl minus ↦ let is_minus = eqb-true b 45 minus in
          rw (minus, next) (boundary_at (b ∷ bs) (suc (prefix_len is_ascii_digit bs)) utf8 (omega arith) (λ k h. signed_ascii b bs k (omega arith) h))
      | inr plain ↦ rw plain (run_boundary Digit (b ∷ bs) utf8)
    ]

-- what has a value without a sign is all digits
natural_digits : (ds : List ℕ) (m : ℕ) → natural_of ds ≡ Some m → list_all is_ascii_digit ds ≡ true
natural_digits [] m e = refl
natural_digits (d ∷ ds) m e = (cond_some (list_all is_ascii_digit (d ∷ ds)) _ m e).0

-- and so is what has one in range
digits_of : (next : ℕ → Option ℤ) (ds : List ℕ) (n : ℤ) → option_and_then next (natural_of ds) ≡ Some n → list_all is_ascii_digit ds ≡ true
digits_of next ds n e = option_and_then_some next (natural_of ds) n e (λ m is _. natural_digits ds m is)

-- a number begins with a digit or a minus
pub number_first : (form : List ℕ) (n : ℤ) → integer_of form ≡ Some n → (is_ascii_digit (slice_index form 0) || slice_index form 0 == 45) ≡ true
number_first [] n e = absurd (none-some n e)
number_first (b ∷ bs) n e = elim (cases_Bool (b == 45)) [
  | inl minus ↦ grind (arith, nat_tests)
  | inr plain ↦ let all : list_all is_ascii_digit (b ∷ bs) ≡ true = digits_of positive (b ∷ bs) n (rw plain at e) in grind (arith, nat_tests)
]

-- no digit touches a number
no_digit_touches : (b : ℕ) → is_in_word b ≡ false → is_ascii_digit b ≡ false
no_digit_touches b h = grind (arith, nat_tests)

-- the form of a number that nothing touches is the one at the front
form_of : (form rest : List ℕ) (n : ℤ) → integer_of form ≡ Some n → is_in_word (slice_index rest 0) ≡ false → (number_form (form ++ rest) ≡ form) × (number_rest (form ++ rest) ≡ rest)
form_of [] rest n e apart = absurd (none-some n e)
form_of (b ∷ bs) rest n e apart =
    let stops = no_digit_touches (slice_index rest 0) apart in
    elim (cases_Bool (b == 45)) [
      | inl minus ↦ let parts = run_of is_ascii_digit bs rest (digits_of negative bs n (rw minus at e)) stops in
          (rw minus (ap (λ l. 45 ∷ l) parts.0 ∙ ap (λ v. v ∷ bs) (sym (eqb-true b 45 minus))), rw minus parts.1)
      | inr plain ↦ let parts = run_of is_ascii_digit (b ∷ bs) rest (digits_of positive (b ∷ bs) n (rw plain at e)) stops in
          (rw plain parts.0, rw plain parts.1)
    ]

-- a number that stands at the front, with nothing that touches it, is read
pub number_read : (form rest : List ℕ) (n : ℤ) → integer_of form ≡ Some n → is_in_word (slice_index rest 0) ≡ false → number_at (form ++ rest) ≡ Some (Number n, rest)
unfolding number_at
number_read form rest n e apart = let parts = form_of form rest n e apart in rw (parts.0, parts.1, apart, e) refl

-- a form that has the value o: what is made of it stands at the front
number_here : (text rest : List ℕ) (t : Token) (o : Option ℤ) → integer_of (number_form text) ≡ o → is_in_word (slice_index (number_rest text) 0) ≡ false → number_before (number_rest text) o ≡ Some (t, rest) → Begins text t rest
number_here text rest t None is apart e = absurd (none-some _ e)
number_here text rest t (Some n) is apart e = begins_found text (Number n) t (number_rest text) rest e (number_form text, is, apart, number_parts text)

-- a number that is read stands at the front
pub number_begins : (text : List ℕ) (t : Token) (rest : List ℕ) → number_at text ≡ Some (t, rest) → Begins text t rest
unfolding number_at
number_begins text t rest e = elim (cases_Bool (is_in_word (slice_index (number_rest text) 0))) [
  | inl touched ↦ absurd (none-some _ (rw touched at e))
  | inr apart ↦ number_here text rest t _ refl apart (rw apart at e)
]
