-- A query that is filled with values has its own tokens, and theirs.
use Rattle.std.proofs.Common.{◌≡◌, ◌<◌, ◌==◌, ◌++◌, ◌∷◌, ◌∙◌, [], ℕ, List, Bool, Option, Some, None, true, false, not, refl, sym, ap, subst, append_assoc, append-nil, inl, inr, arith, length}
use Rattle.std.proofs.lemmas.Bool.{cases_Bool, eqb-true}
use Rattle.std.specs.Prelude.{◌&&◌, option_and_then, option_map}
use Rattle.std.specs.Fmt.{signed_decimal}
use Rattle.cells.specs.Spelling.{IsApart, IsForm, Spells, SpellsRest, doubled, is_blank, is_joined, sign, without_blanks}
use Rattle.cells.specs.declared.cell.Cell.{Cell}
use Rattle.cells.specs.declared.cell.Cell.TheVariants as cell
use Rattle.cells.specs.declared.token.Mark.{Mark as Sign}
use Rattle.cells.specs.declared.token.Mark.TheVariants.{LeftParen, RightParen, Comma, Asterisk, Equals, NotEquals, LessThanOrEquals, GreaterThanOrEquals, LessThan, GreaterThan}
use Rattle.cells.specs.declared.token.Token.{Token}
use Rattle.cells.specs.declared.token.Token.TheVariants.{Word, Number, Quoted, Mark}
use Rattle.script.specs.Parameters.{filled, filled_from, is_quoted, literal_text, turned}
use Rattle.read_back.specs.Filling.{HasTokens, IsFilled, has_mark, no_parameter, parameter, token_of}
use Rattle.read_back.specs.ValueReading.{IsSayable}
use Rattle.read_back.proofs.CsvLemmas.{or_left, or_right}
use Rattle.read_back.proofs.ValuesLemmas.{integer_spelt, text_spelt}

-- ---- texts with a blank between them

-- nothing but blanks, and then a text
blanks_then : (a b : List ℕ) → without_blanks a ≡ [] → without_blanks (a ++ 32 ∷ b) ≡ without_blanks b
blanks_then [] b none = refl
blanks_then (x ∷ a) b none = elim (cases_Bool (is_blank x)) [
  | inl blank ↦ rw blank (blanks_then a b (rw blank at none))
  | inr other ↦ absurd (let bad : x ∷ a ≡ [] = rw other at none in cc)
]

-- something else before it
begun_then : (a b : List ℕ) → 0 < length (without_blanks a) → without_blanks (a ++ 32 ∷ b) ≡ without_blanks a ++ 32 ∷ b
begun_then [] b some = absurd (omega arith)
begun_then (x ∷ a) b some = elim (cases_Bool (is_blank x)) [
  | inl blank ↦ rw blank (begun_then a b (rw blank at some))
  | inr other ↦ rw other refl
]

sign_some : (m : Sign) → 0 < length (sign m)
sign_some LeftParen = omega arith
sign_some RightParen = omega arith
sign_some Comma = omega arith
sign_some Asterisk = omega arith
sign_some Equals = omega arith
sign_some NotEquals = omega arith
sign_some LessThanOrEquals = omega arith
sign_some GreaterThanOrEquals = omega arith
sign_some LessThan = omega arith
sign_some GreaterThan = omega arith

form_some : (t : Token) (form : List ℕ) → IsForm t form → 0 < length form
form_some (Word name) [] is = absurd is.0
form_some (Word name) (b ∷ bs) is = omega arith
form_some (Number n) [] is = absurd (cc)
form_some (Number n) (b ∷ bs) is = omega arith
form_some (Quoted text) form is = let same = ap length is.1 in omega arith
form_some (Mark m) form is = subst (λ l. 0 < length l) (sym is) (sign_some m)

-- a blank is joined to no token
blank_apart : (t : Token) → is_joined t 32 ≡ false
blank_apart (Word name) = refl
blank_apart (Number n) = refl
blank_apart (Quoted text) = refl
blank_apart (Mark LeftParen) = refl
blank_apart (Mark RightParen) = refl
blank_apart (Mark Comma) = refl
blank_apart (Mark Asterisk) = refl
blank_apart (Mark Equals) = refl
blank_apart (Mark NotEquals) = refl
blank_apart (Mark LessThanOrEquals) = refl
blank_apart (Mark GreaterThanOrEquals) = refl
blank_apart (Mark LessThan) = refl
blank_apart (Mark GreaterThan) = refl

apart_then : (t : Token) (rest b : List ℕ) → IsApart t rest → IsApart t (rest ++ 32 ∷ b)
apart_then t [] b apart = blank_apart t
apart_then t (x ∷ rest) b apart = apart

form_then : (form rest : List ℕ) → 0 < length form → 0 < length (form ++ rest)
form_then [] rest some = absurd (omega arith)
form_then (x ∷ form) rest some = omega arith

spells_joined : (ts us : List Token) (a b : List ℕ) → Spells a ts → Spells b us → Spells (a ++ 32 ∷ b) (ts ++ us)
spells_joined [] us a b first second = subst (λ l. SpellsRest l us) (sym (blanks_then a b first)) second
spells_joined (t ∷ ts) us a b first second =
    let (rest, begins, more) = first in
    let (form, is, apart, parted) = begins in
    let some : 0 < length (without_blanks a) = subst (λ l. 0 < length l) (sym parted) (form_then form rest (form_some t form is)) in
    subst (λ l. SpellsRest l (t ∷ (ts ++ us))) (sym (begun_then a b some))
    (rest ++ 32 ∷ b, (form, is, apart_then t rest b apart, ap (λ l. l ++ 32 ∷ b) parted ∙ append_assoc form rest (32 ∷ b)), spells_joined ts us rest b more second)

-- ---- what is filled

abbrev before : List ℕ → Option (List ℕ) → Option (List ℕ)
before front o = option_map (λ more. front ++ more) o

before_nothing : (o : Option (List ℕ)) → o ≡ before [] o
before_nothing None = refl
before_nothing (Some m) = refl

before_one : (b : ℕ) (bs : List ℕ) (o : Option (List ℕ)) → option_map (λ more. b ∷ more) (before bs o) ≡ before (b ∷ bs) o
before_one b bs None = refl
before_one b bs (Some m) = refl

quoted_mark : (b : ℕ) (quoted : Bool) → (b == 63) ≡ true → (b == 63 && not quoted) ≡ false → quoted ≡ true
quoted_mark b true is none = refl
quoted_mark b false is none = absurd (let bad : true ≡ false = rw is at none in cc)

-- a `?` in quotes stands for itself
marked_step : (b : ℕ) (quoted : Bool) (cells : List Cell) (bs : List ℕ) → (b == 63) ≡ true → quoted ≡ true → filled_from quoted cells (b ∷ bs) ≡ option_map (λ more. b ∷ more) (filled_from (turned quoted b) cells bs)
marked_step b quoted cells bs is inside =
    let byte = eqb-true b 63 is in
    rw (byte, inside) refl

plain_step : (b : ℕ) (quoted : Bool) (cells : List Cell) (bs : List ℕ) → (b == 63) ≡ false → filled_from quoted cells (b ∷ bs) ≡ option_map (λ more. b ∷ more) (filled_from (turned quoted b) cells bs)
plain_step b quoted cells bs other = rw other refl

filled_part : (part rest : List ℕ) (quoted : Bool) (cells : List Cell) → has_mark quoted part ≡ false → filled_from quoted cells (part ++ rest) ≡ before part (filled_from (is_quoted quoted part) cells rest)
filled_part [] rest quoted cells none = before_nothing (filled_from quoted cells rest)
filled_part (b ∷ bs) rest quoted cells none =
    let here = or_left (b == 63 && not quoted) (has_mark (turned quoted b) bs) none in
    let later = or_right (b == 63 && not quoted) (has_mark (turned quoted b) bs) none in
    elim (cases_Bool (b == 63)) [
      | inl is ↦ marked_step b quoted cells (bs ++ rest) is (quoted_mark b quoted is here)
      | inr other ↦ plain_step b quoted cells (bs ++ rest) other
    ]
    ∙ ap (option_map (λ more. b ∷ more)) (filled_part bs rest (turned quoted b) cells later)
    ∙ before_one b bs (filled_from (is_quoted (turned quoted b) bs) cells rest)

-- a value's literal, and its token
record IsLiteral (x : Cell) (t : Token) : Type 0 where
  text : List ℕ
  is : literal_text x ≡ Some (32 ∷ (text ++ 32 ∷ []))
  spells : Spells text (t ∷ [])

same_token : (s t : Token) → Some s ≡ Some t → s ≡ t
same_token s t e = cc

literal_at : (x : Cell) (t : Token) → IsSayable x → token_of x ≡ Some t → IsLiteral x t
literal_at cell.Null t sayable is = absurd cc
literal_at (cell.Int n) t sayable is = subst (IsLiteral (cell.Int n)) (same_token (Number n) t is) (record { text = signed_decimal n; is = refl; spells = integer_spelt n sayable })
literal_at (cell.Text s) t sayable is = subst (IsLiteral (cell.Text s)) (same_token (Quoted s) t is) (record { text = 39 ∷ (doubled s ++ 39 ∷ []); is = refl; spells = text_spelt s sayable.few })

joined_text : (part text more : List ℕ) → part ++ ((32 ∷ (text ++ 32 ∷ [])) ++ more) ≡ part ++ 32 ∷ (text ++ 32 ∷ more)
joined_text part text more = ap (λ l. part ++ 32 ∷ l) (append_assoc text (32 ∷ []) more)

pub query_filled : {query : List ℕ} {xs : List Cell} {ts : List Token} → HasTokens query xs ts → IsFilled (filled xs query) ts
query_filled (no_parameter {text = text} none spells) = record {
  text = text;
  is = ap (filled_from false []) (sym (append-nil text)) ∙ filled_part text [] false [] none ∙ ap Some (append-nil text);
  spells = spells;
}
query_filled (parameter part rest {x = x} {xs = xs} {t = t} ts us none ends spells sayable token more) =
    let later = query_filled more in
    let literal = literal_at x t sayable token in
    record {
      text = part ++ 32 ∷ (literal.text ++ 32 ∷ later.text);
      is =
          filled_part part (63 ∷ rest) false (x ∷ xs) none
          ∙ ap (λ quoted. before part (filled_from quoted (x ∷ xs) (63 ∷ rest))) ends
          ∙ ap (λ (o : Option (List ℕ)). before part (option_and_then (λ (p : List ℕ × List Cell). before p.0 (filled_from false p.1 rest)) (option_map (λ l. (l, xs)) o))) literal.is
          ∙ ap (λ (o : Option (List ℕ)). before part (before (32 ∷ (literal.text ++ 32 ∷ [])) o)) later.is
          ∙ ap Some (joined_text part literal.text later.text);
      spells = spells_joined ts (t ∷ us) part (literal.text ++ 32 ∷ later.text) spells (spells_joined (t ∷ []) us literal.text later.text literal.spells later.spells);
    }
