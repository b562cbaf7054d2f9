-- What is written of a value is UTF-8.
use Rattle.std.proofs.Common.{◌≡◌, ◌<◌, ◌≤◌, ◌==◌, ◌++◌, ◌∷◌, ◌∙◌, [], ℕ, suc, List, IsUtf8, refl, sym, ap, subst, true, false, cond, append_assoc, append-nil, inl, inr, arith, get_or, length}
use Rattle.std.proofs.lemmas.Bool.{and_parts, cases_Bool, cases_lt}
use Rattle.std.proofs.lemmas.Bool.Decides.{nat_tests}
use Rattle.std.proofs.lemmas.Str.{IsUtf8-append, IsUtf8-encode, IsUtf8-nil, encode_ascii, inside_one}
use Rattle.std.proofs.Math.Utf8.{encode, encodes, low_scalar, scalar, scalars}
use Rattle.std.specs.Char.{is_ascii_digit}
use Rattle.std.specs.List.{flat_map, list_all}
use Rattle.cells.specs.Spelling.{doubled}

pub ascii_then : (b : ℕ) (bytes : List ℕ) → b < 128 → IsUtf8 bytes → IsUtf8 (b ∷ bytes)
ascii_then b bytes low utf8 = IsUtf8-append (b ∷ []) bytes (subst IsUtf8 (encode_ascii b low) (IsUtf8-encode b (low_scalar b (omega arith)))) utf8

pub ascii_last : (bytes : List ℕ) (b : ℕ) → b < 128 → IsUtf8 bytes → IsUtf8 (bytes ++ b ∷ [])
ascii_last bytes b low utf8 = IsUtf8-append bytes (b ∷ []) utf8 (ascii_then b [] low IsUtf8-nil)

digit_low : (d : ℕ) → is_ascii_digit d ≡ true → d < 128
digit_low d e = grind arith

pub digits_utf8 : (ds : List ℕ) → list_all is_ascii_digit ds ≡ true → IsUtf8 ds
digits_utf8 [] all = IsUtf8-nil
digits_utf8 (d ∷ ds) all =
    let parts = and_parts (is_ascii_digit d) (list_all is_ascii_digit ds) all in
    ascii_then d ds (digit_low d parts.0) (digits_utf8 ds parts.1)

-- ---- a byte that stands twice

-- the byte q twice, and any other as it is
abbrev pub twice : ℕ → ℕ → List ℕ
twice q b = cond (b == q) (q ∷ q ∷ []) (b ∷ [])

module _ (q : ℕ) (low : q < 128) where
  twice-append : (xs ys : List ℕ) → flat_map (twice q) (xs ++ ys) ≡ flat_map (twice q) xs ++ flat_map (twice q) ys
  twice-append [] ys = refl
  twice-append (x ∷ xs) ys = ap (λ l. twice q x ++ l) (twice-append xs ys) ∙ sym (append_assoc (twice q x) (flat_map (twice q) xs) (flat_map (twice q) ys))

  other_byte : (b : ℕ) → 128 ≤ b → (b == q) ≡ false
  other_byte b high = grind (arith, nat_tests)

  -- the bytes of other characters stand as they are
  twice_high : (xs : List ℕ) → ((k : ℕ) → k < length xs → 128 ≤ get_or xs k 0) → flat_map (twice q) xs ≡ xs
  twice_high [] high = refl
  twice_high (x ∷ xs) high = rw (other_byte x (high 0 (omega arith))) (ap (λ l. x ∷ l) (twice_high xs (λ k below. high (suc k) (omega arith))))

  one_low : (c : ℕ) → c < 128 → IsUtf8 (flat_map (twice q) (c ∷ []))
  one_low c small = elim (cases_Bool (c == q)) [
    | inl same ↦ rw same (ascii_then q (q ∷ []) low (ascii_then q [] low IsUtf8-nil))
    | inr other ↦ rw other (ascii_then c [] small IsUtf8-nil)
  ]

  one_char : (c : ℕ) → scalar c ≡ true → IsUtf8 (flat_map (twice q) (encode c))
  one_char c is = elim (cases_lt c 128) [
    | inl small ↦ subst (λ l. IsUtf8 (flat_map (twice q) l)) (sym (encode_ascii c small)) (one_low c small)
    | inr big ↦
        let high : (k : ℕ) → k < length (encode c) → 128 ≤ get_or (encode c) k 0 = λ k below. elim (cases_lt (get_or (encode c) k 0) 128) [
          | inl small ↦ absurd (omega (arith, inside_one c [] (encode c) k (sym (append-nil _)) below small))
          | inr h ↦ h
        ] in
        subst IsUtf8 (sym (twice_high (encode c) high)) (IsUtf8-encode c is)
  ]

  all_chars : (cs : List ℕ) → scalars cs ≡ true → IsUtf8 (flat_map (twice q) (encodes cs))
  all_chars [] e = IsUtf8-nil
  all_chars (c ∷ cs) e =
      let parts = and_parts _ _ e in
      subst IsUtf8 (sym (twice-append (encode c) (encodes cs))) (IsUtf8-append _ _ (one_char c parts.0) (all_chars cs parts.1))

  pub twice_utf8 : (text : List ℕ) → IsUtf8 text → IsUtf8 (flat_map (twice q) text)
  twice_utf8 text utf8 = subst (λ l. IsUtf8 (flat_map (twice q) l)) utf8.1.1 (all_chars utf8.0 utf8.1.0)

-- the quotes of a literal
doubled_is : (text : List ℕ) → flat_map (twice 39) text ≡ doubled text
doubled_is [] = refl
doubled_is (b ∷ text) = elim (cases_Bool (b == 39)) [
  | inl quote ↦ rw (quote, doubled_is text) refl
  | inr other ↦ rw (other, doubled_is text) refl
]

pub doubled_utf8 : (text : List ℕ) → IsUtf8 text → IsUtf8 (doubled text)
doubled_utf8 text utf8 = subst IsUtf8 (doubled_is text) (twice_utf8 39 (omega arith) text utf8)
