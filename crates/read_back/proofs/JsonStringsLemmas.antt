-- What a reader of JSON makes of a string and of an integer.
use Rattle.std.proofs.Common.{◌≡◌, ℕ, zero, suc, ◌+◌, ◌<◌, ◌≤◌, ◌/◌, ◌%◌, ◌^◌, ◌*◌, ◌==◌, Bool, true, false, List, [], ◌∷◌, ◌++◌, Some, inl, inr, ◌⊎◌, refl, sym, ap, ◌∙◌, subst, arith, append_assoc, length, drop}
use Rattle.std.proofs.lemmas.Bool.{cases_Bool, cases_eq, cases_lt, eqb-false, eqb-true, le-leb, le-ltb, ne_eqb}
use Rattle.std.proofs.lemmas.Bool.Decides.{nat_tests}
use Rattle.std.proofs.Math.Nat.{pow-suc}
use Rattle.std.proofs.lemmas.Fmt.{decimal_digit}
use Rattle.std.proofs.lemmas.List.{drop_all}
use Rattle.std.specs.Prelude.{ℤ, pos, negsuc, cond, nat_lt, option_and_then}
use Rattle.std.specs.Char.{is_ascii_digit}
use Rattle.std.specs.Fmt.{decimal, digit_glyph, digits, digits_onto, signed_decimal}
use Rattle.std.specs.Int.RustNames.{unsigned_abs}
use Rattle.std.specs.List.{flat_map, prefix_len}
use lib.Utf8.{encode}
use Rattle.json.specs.Lex.{Lexeme, Mode, between, in_string, lex, lex_byte, operator, other, space, string_token, token}
use Rattle.json.specs.Print.{IsNumber}
use Rattle.json.specs.Text.{code_unit, content, plain, prepend, short_escape}
use Rattle.json.specs.Token.{string}
use Rattle.json.specs.Word.{after_exponent, after_fraction, after_number, after_whole, head, is_operator, is_space}
use Rattle.forms.specs.Json.{json_byte, json_string}

-- what a reader makes of a byte of a string, before any text
record Passes (b : ℕ) : Type 0 where
  read : (r : List ℕ) → content plain (json_byte b ++ r) ≡ prepend (b ∷ []) (content plain r)
  lexed : (r : List ℕ) → lex in_string (json_byte b ++ r) ≡ lex in_string r

-- P holds below n, counted down from the top
abbrev Each : (ℕ → Type 0) → ℕ → Type 0
Each P zero = Unit {0}
Each P (suc n) = P n × Each P n

each_below : (P : ℕ → Type 0) (n : ℕ) → Each P n → (b : ℕ) → b < n → P b
each_below P zero h b small = absurd (omega arith)
each_below P (suc n) h b small = go (each_below P n h.1 b) (cases_eq b n)
  where
    go : (b < n → P b) → (b ≡ n) ⊎ (b ≡ n → ⊥) → P b
    go below (inl e) = subst P (sym e) h.0
    go below (inr differs) = below (omega arith)

controls : Each Passes 32
unfolding content lex code_unit short_escape encode
controls = (record { read = λ r. refl; lexed = λ r. refl }, (record { read = λ r. refl; lexed = λ r. refl }, (record { read = λ r. refl; lexed = λ r. refl }, (record { read = λ r. refl; lexed = λ r. refl }, (record { read = λ r. refl; lexed = λ r. refl }, (record { read = λ r. refl; lexed = λ r. refl }, (record { read = λ r. refl; lexed = λ r. refl }, (record { read = λ r. refl; lexed = λ r. refl }, (record { read = λ r. refl; lexed = λ r. refl }, (record { read = λ r. refl; lexed = λ r. refl }, (record { read = λ r. refl; lexed = λ r. refl }, (record { read = λ r. refl; lexed = λ r. refl }, (record { read = λ r. refl; lexed = λ r. refl }, (record { read = λ r. refl; lexed = λ r. refl }, (record { read = λ r. refl; lexed = λ r. refl }, (record { read = λ r. refl; lexed = λ r. refl }, (record { read = λ r. refl; lexed = λ r. refl }, (record { read = λ r. refl; lexed = λ r. refl }, (record { read = λ r. refl; lexed = λ r. refl }, (record { read = λ r. refl; lexed = λ r. refl }, (record { read = λ r. refl; lexed = λ r. refl }, (record { read = λ r. refl; lexed = λ r. refl }, (record { read = λ r. refl; lexed = λ r. refl }, (record { read = λ r. refl; lexed = λ r. refl }, (record { read = λ r. refl; lexed = λ r. refl }, (record { read = λ r. refl; lexed = λ r. refl }, (record { read = λ r. refl; lexed = λ r. refl }, (record { read = λ r. refl; lexed = λ r. refl }, (record { read = λ r. refl; lexed = λ r. refl }, (record { read = λ r. refl; lexed = λ r. refl }, (record { read = λ r. refl; lexed = λ r. refl }, (record { read = λ r. refl; lexed = λ r. refl }, tt))))))))))))))))))))))))))))))))

quote_passes : Passes 34
unfolding content lex short_escape
quote_passes = record { read = λ r. refl; lexed = λ r. refl }

backslash_passes : Passes 92
unfolding content lex short_escape
backslash_passes = record { read = λ r. refl; lexed = λ r. refl }

plain_byte : (b : ℕ) → (b ≡ 34 → ⊥) → (b ≡ 92 → ⊥) → 32 ≤ b → json_byte b ≡ b ∷ []
plain_byte b quote backslash large = rw (ne_eqb b 34 quote, ne_eqb b 92 backslash, le-ltb b 32 large) refl

stays : (o s : Bool) (b : ℕ) (r : List ℕ) (k : Mode → List Lexeme) → lex_byte in_string (cond o operator (cond s space other)) b r k ≡ k in_string
stays true s b r k = refl
stays false true b r k = refl
stays false false b r k = refl

plain_passes : (b : ℕ) → (b ≡ 34 → ⊥) → (b ≡ 92 → ⊥) → 32 ≤ b → Passes b
unfolding content lex
plain_passes b quote backslash large =
    let same = plain_byte b quote backslash large in
    record {
      read = λ r. rw (same, ne_eqb b 34 quote, ne_eqb b 92 backslash, le-ltb b 32 large) refl;
      lexed = λ r. rw (same, ne_eqb b 34 quote, ne_eqb b 92 backslash) (stays (is_operator b) (is_space b) b r (λ m. lex m r));
    }

passes : (b : ℕ) → Passes b
passes b = go (cases_eq b 34) (cases_eq b 92) (cases_lt b 32)
  where
    go : (b ≡ 34) ⊎ (b ≡ 34 → ⊥) → (b ≡ 92) ⊎ (b ≡ 92 → ⊥) → (b < 32) ⊎ (32 ≤ b) → Passes b
    go (inl e) backslash control = subst Passes (sym e) quote_passes
    go (inr quote) (inl e) control = subst Passes (sym e) backslash_passes
    go (inr quote) (inr backslash) (inl control) = each_below Passes 32 controls b control
    go (inr quote) (inr backslash) (inr large) = plain_passes b quote backslash large

content_read : (text r : List ℕ) → content plain (flat_map json_byte text ++ 34 ∷ r) ≡ Some text
unfolding content
content_read [] r = refl
content_read (b ∷ text) r =
    ap (content plain) (append_assoc (json_byte b) (flat_map json_byte text) (34 ∷ r))
    ∙ (passes b).read _
    ∙ ap (prepend (b ∷ [])) (content_read text r)

content_lexed : (text r : List ℕ) → lex in_string (flat_map json_byte text ++ 34 ∷ r) ≡ lex between r
unfolding lex
content_lexed [] r = refl
content_lexed (b ∷ text) r =
    ap (lex in_string) (append_assoc (json_byte b) (flat_map json_byte text) (34 ∷ r))
    ∙ (passes b).lexed _
    ∙ content_lexed text r

-- a string is read as its text
pub string_lexed : (text r : List ℕ) → lex between (json_string text ++ r) ≡ token (string text) ∷ lex between r
unfolding lex
string_lexed text r =
    ap (λ l. lex between (34 ∷ l)) (append_assoc (flat_map json_byte text) (34 ∷ []) r)
    ∙ ap (λ o. token (string_token o) ∷ lex in_string (flat_map json_byte text ++ 34 ∷ r)) (content_read text r)
    ∙ ap (λ l. token (string text) ∷ l) (content_lexed text r)

-- ---- integers

abbrev AreDigits : List ℕ → Type 0
AreDigits ds = prefix_len is_ascii_digit ds ≡ length ds

digit_first : (d : ℕ) (ds : List ℕ) → d < 10 → AreDigits ds → AreDigits (digit_glyph false d ∷ ds)
digit_first d ds small all =
    let glyph : digit_glyph false d ≡ 48 + d = let below : nat_lt d 10 ≡ true = grind (arith, nat_tests) in rw below refl in
    rw (glyph, le-leb 48 (48 + d) (omega arith), le-leb (48 + d) 57 (omega arith), all) (omega arith)

onto_digits : (k n : ℕ) (acc : List ℕ) → AreDigits acc → AreDigits (digits_onto k 10 false n acc)
onto_digits zero n acc all = all
onto_digits (suc k) n acc all =
    let more = digit_first (n % 10) acc (omega arith) all in
    elim (cases_Bool (n / 10 == 0)) [
      | inl last ↦ rw last more
      | inr goes ↦ rw goes (onto_digits k (n / 10) (digit_glyph false (n % 10) ∷ acc) more)
    ]

decimal_digits : (n : ℕ) → AreDigits (decimal n)
unfolding digits
decimal_digits n = onto_digits 64 n [] refl

-- the first digit of a number above 0 is none
onto_first : (k n : ℕ) (acc : List ℕ) → 0 < n → n < 10 ^ k → 48 < head (digits_onto k 10 false n acc)
onto_first zero n acc some small = absurd (omega arith)
onto_first (suc k) n acc some small = elim (cases_Bool (n / 10 == 0)) [
  | inl last ↦
      let none : n / 10 ≡ 0 = eqb-true (n / 10) 0 last in
      let digit : n % 10 ≡ n = omega arith in
      let below : nat_lt (n % 10) 10 ≡ true = grind (arith, nat_tests) in
      rw (last, below) (omega arith)
  | inr goes ↦
      let differs : n / 10 ≡ 0 → ⊥ = eqb-false (n / 10) 0 goes in
      let above : 0 < n / 10 = elim (cases_lt 0 (n / 10)) [ inl lt ↦ lt | inr le ↦ absurd (differs (omega arith)) ] in
      let ten : 10 ^ suc k ≡ 10 ^ k * 10 = pow-suc 10 k in
      let less : n / 10 < 10 ^ k = omega (arith, ten, small) in
      rw goes (onto_first k (n / 10) (digit_glyph false (n % 10) ∷ acc) above less)
]

decimal_first : (n : ℕ) → 0 < n → n < 10 ^ 64 → 48 < head (decimal n)
unfolding digits
decimal_first n some small = onto_first 64 n [] some small

whole_digits : (ds : List ℕ) → 48 < head ds → AreDigits ds → (after_whole ds ≡ Some []) × ((head ds == 45) ≡ false)
whole_digits [] first all = absurd (omega arith)
whole_digits (d ∷ ds) first all = (
  rw (ne_eqb d 48 (λ e. omega arith), all, ne_eqb (suc (length ds)) 0 (λ e. omega arith)) (ap Some (drop_all (length ds) ds (omega arith))),
  ne_eqb d 45 (λ e. omega arith),
)

whole_decimal : (n : ℕ) → n < 10 ^ 64 → (after_whole (decimal n) ≡ Some []) × ((head (decimal n) == 45) ≡ false)
whole_decimal zero small = let e = decimal_digit 0 (omega arith) in (ap after_whole e, ap (λ l. head l == 45) e)
whole_decimal (suc n) small = whole_digits (decimal (suc n)) (decimal_first (suc n) (omega arith) small) (decimal_digits (suc n))

decimal_number : (n : ℕ) → n < 10 ^ 64 → IsNumber (decimal n)
unfolding after_number
decimal_number n small =
    let whole = whole_decimal n small in
    ap (λ o. option_and_then after_exponent (option_and_then after_fraction o))
    (ap (λ b. after_whole (cond b (drop 1 (decimal n)) (decimal n))) whole.1 ∙ whole.0)

negative_number : (n : ℕ) → n < 10 ^ 64 → IsNumber (45 ∷ decimal n)
unfolding after_number
negative_number n small = ap (λ o. option_and_then after_exponent (option_and_then after_fraction o)) (whole_decimal n small).0

-- an integer of 128 bits is a number of JSON
pub signed_number : (z : ℤ) → unsigned_abs z ≤ 2 ^ 127 → IsNumber (signed_decimal z)
signed_number (pos n) small = decimal_number n (omega arith)
signed_number (negsuc n) small = negative_number (suc n) (omega arith)
