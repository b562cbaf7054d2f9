-- What a reader of JSON makes of the values, the arrays and the object of a report.
use Rattle.std.proofs.Common.{◌≡◌, ℕ, true, false, List, [], ◌∷◌, ◌++◌, refl, sym, ap, ap₂, ◌∙◌, append_assoc}
use Rattle.std.proofs.lemmas.List.Elements.{All-head, All-tail}
use Rattle.std.specs.Prelude.{codes, cond, ⊤}
use Rattle.std.specs.Fmt.{signed_decimal}
use Rattle.std.specs.List.{All, flat_map, join_by}
use Rattle.cells.specs.declared.total.Total.{Total}
use Rattle.cells.specs.declared.total.Total.TheVariants.{Null, Int, Text}
use Rattle.json.specs.Lex.{Place, after_comma, after_key, after_value, begins_colon, between, fresh, lex, may_begin, punctuate, token, tokens}
use Rattle.json.specs.Text.{content}
use Rattle.json.specs.Token.{Token, bad, begin_array, begin_object, end_array, end_object, key, null, number, string}
use Rattle.json.specs.Word.{ends_word, word}
use Rattle.json.proofs.Printed.Numbers.{in_word-ended, lex-number}
use Rattle.forms.specs.Forms.{report_in}
use Rattle.forms.specs.Json.{json_array, json_columns, json_row, json_string, json_value}
use Rattle.forms.specs.declared.form.Form.TheVariants.{Json}
use Rattle.read_back.specs.JsonReading.{HasBits, array_of, object_of, row_of, token_of}
use Rattle.read_back.proofs.JsonStringsLemmas.{signed_number, string_lexed}

-- a text that stands before r is read as these tokens, where a value may stand
abbrev IsValue : List ℕ → List Token → Type 0
IsValue text values = (p : Place) (r : List ℕ) → may_begin p ≡ true → ends_word r ≡ true → begins_colon (lex between r) ≡ false →
    punctuate p (lex between (text ++ r)) ≡ values ++ punctuate after_value (lex between r)

string_value : (text : List ℕ) → IsValue (json_string text) (string text ∷ [])
unfolding punctuate
string_value text fresh r may ended colon = ap (punctuate fresh) (string_lexed text r) ∙ rw colon refl
string_value text after_comma r may ended colon = ap (punctuate after_comma) (string_lexed text r) ∙ rw colon refl
string_value text after_value r may ended colon = cc may
string_value text after_key r may ended colon = cc may

number_lexed : (n : List ℕ) → (p : Place) (r : List ℕ) → may_begin p ≡ true → lex between (n ++ r) ≡ token (number n) ∷ lex between r →
    punctuate p (lex between (n ++ r)) ≡ number n ∷ punctuate after_value (lex between r)
unfolding punctuate
number_lexed n fresh r may read = ap (punctuate fresh) read
number_lexed n after_comma r may read = ap (punctuate after_comma) read
number_lexed n after_value r may read = cc may
number_lexed n after_key r may read = cc may

null_lexed : (r : List ℕ) → ends_word r ≡ true → lex between (codes "null" ++ r) ≡ token null ∷ lex between r
unfolding lex word
null_lexed r ended = ap₂ (λ b l. token (cond b null bad) ∷ l) ended (in_word-ended r ended)

null_value : IsValue (codes "null") (null ∷ [])
unfolding punctuate
null_value fresh r may ended colon = ap (punctuate fresh) (null_lexed r ended)
null_value after_comma r may ended colon = ap (punctuate after_comma) (null_lexed r ended)
null_value after_value r may ended colon = cc may
null_value after_key r may ended colon = cc may

total_value : (total : Total) → HasBits total → IsValue (json_value total) (token_of total ∷ [])
total_value Null bits = null_value
total_value (Int n) bits = λ p r may ended colon. number_lexed (signed_decimal n) p r may (lex-number (signed_decimal n) r (signed_number n bits) ended)
total_value (Text text) bits = string_value text

-- ---- arrays

module _ {X : Type 0} (Fits : X → Type 0) (text : X → List ℕ) (values : X → List Token) (each : (x : X) → Fits x → IsValue (text x) (values x)) where
  abbrev later : List X → List ℕ
  later xs = flat_map (λ x. 44 ∷ text x) xs

  later_ends : (xs : List X) (r : List ℕ) → ends_word (later xs ++ 93 ∷ r) ≡ true
  later_ends [] r = refl
  later_ends (x ∷ xs) r = refl

  later_colon : (xs : List X) (r : List ℕ) → begins_colon (lex between (later xs ++ 93 ∷ r)) ≡ false
  unfolding lex
  later_colon [] r = refl
  later_colon (x ∷ xs) r = refl

  later_read : (xs : List X) (r : List ℕ) → All Fits xs →
      punctuate after_value (lex between (later xs ++ 93 ∷ r)) ≡ flat_map values xs ++ end_array ∷ punctuate after_value (lex between r)
  unfolding lex punctuate
  later_read [] r fit = refl
  later_read (x ∷ xs) r fit =
      ap (λ l. punctuate after_comma (lex between l)) (append_assoc (text x) (later xs) (93 ∷ r))
      ∙ each x (All-head Fits x xs fit) after_comma (later xs ++ 93 ∷ r) refl (later_ends xs r) (later_colon xs r)
      ∙ ap (λ l. values x ++ l) (later_read xs r (All-tail Fits x xs fit))
      ∙ sym (append_assoc (values x) (flat_map values xs) (end_array ∷ punctuate after_value (lex between r)))

  inside_read : (xs : List X) (r : List ℕ) → All Fits xs →
      punctuate fresh (lex between (join_by text (44 ∷ []) xs ++ 93 ∷ r)) ≡ flat_map values xs ++ end_array ∷ punctuate after_value (lex between r)
  unfolding lex punctuate
  inside_read [] r fit = refl
  inside_read (x ∷ xs) r fit =
      ap (λ l. punctuate fresh (lex between l)) (append_assoc (text x) (later xs) (93 ∷ r))
      ∙ each x (All-head Fits x xs fit) fresh (later xs ++ 93 ∷ r) refl (later_ends xs r) (later_colon xs r)
      ∙ ap (λ l. values x ++ l) (later_read xs r (All-tail Fits x xs fit))
      ∙ sym (append_assoc (values x) (flat_map values xs) (end_array ∷ punctuate after_value (lex between r)))

  array_read : (p : Place) (xs : List X) (r : List ℕ) → All Fits xs → may_begin p ≡ true →
      punctuate p (lex between (json_array text xs ++ r)) ≡ array_of (flat_map values xs) ++ punctuate after_value (lex between r)
  unfolding lex punctuate
  array_read fresh xs r fit may =
      ap (λ l. begin_array ∷ punctuate fresh (lex between l)) (append_assoc (join_by text (44 ∷ []) xs) (93 ∷ []) r)
      ∙ ap (λ l. begin_array ∷ l) (inside_read xs r fit ∙ sym (append_assoc (flat_map values xs) (end_array ∷ []) (punctuate after_value (lex between r))))
  array_read after_comma xs r fit may =
      ap (λ l. begin_array ∷ punctuate fresh (lex between l)) (append_assoc (join_by text (44 ∷ []) xs) (93 ∷ []) r)
      ∙ ap (λ l. begin_array ∷ l) (inside_read xs r fit ∙ sym (append_assoc (flat_map values xs) (end_array ∷ []) (punctuate after_value (lex between r))))
  array_read after_value xs r fit may = cc may
  array_read after_key xs r fit may = cc may

row_value : (totals : List Total) → All HasBits totals → IsValue (json_row totals) (row_of totals)
row_value totals fit p r may ended colon = array_read HasBits json_value (λ total. token_of total ∷ []) total_value p totals r fit may

all_fit : (headings : List (List ℕ)) → All (λ heading. ⊤) headings
all_fit headings k d small = tt

-- ---- the object

columns_read : (headings : List (List ℕ)) (r : List ℕ) →
    punctuate fresh (lex between (json_columns headings ++ r)) ≡ array_of (flat_map (λ heading. string heading ∷ []) headings) ++ punctuate after_value (lex between r)
columns_read headings r = array_read (λ heading. ⊤) json_string (λ heading. string heading ∷ []) (λ heading fit. string_value heading) fresh headings r (all_fit headings) refl

rows_read : (rows : List (List Total)) (r : List ℕ) → All (All HasBits) rows →
    punctuate fresh (lex between (json_array json_row rows ++ r)) ≡ array_of (flat_map row_of rows) ++ punctuate after_value (lex between r)
rows_read rows r fit = array_read (All HasBits) json_row row_of row_value fresh rows r fit refl

begins : (r : List ℕ) → tokens (123 ∷ (codes "\"columns\":" ++ r)) ≡ begin_object ∷ key (codes "columns") ∷ punctuate fresh (lex between r)
unfolding lex punctuate content
begins r = refl

goes_on : (r : List ℕ) → punctuate after_value (lex between (codes ",\"rows\":" ++ r)) ≡ key (codes "rows") ∷ punctuate fresh (lex between r)
unfolding lex punctuate content
goes_on r = refl

ends : punctuate after_value (lex between (125 ∷ [])) ≡ end_object ∷ []
unfolding lex punctuate
ends = refl

-- the report in braces, part by part
parts : (headings : List (List ℕ)) (rows : List (List Total)) →
    123 ∷ (report_in Json headings rows ++ 125 ∷ []) ≡ 123 ∷ (codes "\"columns\":" ++ (json_columns headings ++ (codes ",\"rows\":" ++ (json_array json_row rows ++ 125 ∷ []))))
parts headings rows =
    ap (λ l. 123 ∷ (codes "\"columns\":" ++ l)) (append_assoc (json_columns headings) (codes ",\"rows\":" ++ json_array json_row rows) (125 ∷ []))

pub object_read : (headings : List (List ℕ)) (rows : List (List Total)) → All (All HasBits) rows →
    tokens (123 ∷ (report_in Json headings rows ++ 125 ∷ [])) ≡ object_of headings rows
object_read headings rows fit =
    ap tokens (parts headings rows)
    ∙ begins (json_columns headings ++ (codes ",\"rows\":" ++ (json_array json_row rows ++ 125 ∷ [])))
    ∙ ap (λ l. begin_object ∷ key (codes "columns") ∷ l) (
    columns_read headings (codes ",\"rows\":" ++ (json_array json_row rows ++ 125 ∷ []))
    ∙ ap (λ l. array_of (flat_map (λ heading. string heading ∷ []) headings) ++ l) (
    goes_on (json_array json_row rows ++ 125 ∷ [])
    ∙ ap (λ l. key (codes "rows") ∷ l) (rows_read rows (125 ∷ []) fit ∙ ap (λ l. array_of (flat_map row_of rows) ++ l) ends)))
