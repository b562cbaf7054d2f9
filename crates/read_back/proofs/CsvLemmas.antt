-- What the default reader of CSV makes of the fields and the records of a report.
use Rattle.std.proofs.Common.{◌≡◌, ◌≢◌, ◌<◌, ◌+◌, ◌/◌, ◌%◌, ◌==◌, ◌++◌, ◌∷◌, ◌∙◌, [], ℕ, zero, suc, List, Bool, Some, refl, sym, ap, subst, true, false, append_assoc, inl, inr, arith, length, map}
use Rattle.std.proofs.lemmas.Bool.{cases_Bool, eqb-true}
use Rattle.std.proofs.lemmas.Bool.Decides.{nat_tests}
use Rattle.std.specs.Prelude.{◌||◌, ℤ, pos, negsuc, nat_lt}
use Rattle.std.specs.Fmt.{decimal, digit_glyph, digits, digits_onto, signed_decimal}
use Rattle.std.proofs.lemmas.List.Elements.{All-head, All-tail}
use Rattle.std.specs.List.{All, flat_map, join_by, list_any}
use Rattle.csv.specs.Machine.{next_record}
use Rattle.csv.specs.Reading.{Reached, default_config, strip_bom}
use Rattle.csv.specs.Writing.{default_writer, escaped, needs_byte}
use Rattle.csv.specs.declared.parser.State.TheVariants as st
use Rattle.csv.proofs.RoundTrip.{after-quote-same, plain-run, quoted-run, record-same, start-same}
use Rattle.cells.specs.declared.total.Total.{Total}
use Rattle.cells.specs.declared.total.Total.TheVariants.{Null, Int, Text}
use Rattle.forms.specs.Csv.{begins_with_bom, csv_field, csv_header, csv_row, doubled_byte, has_blank_end, in_quotes, is_lone_null, is_mark, needs_quotes, text_field}
use Rattle.forms.specs.Forms.{report_in}
use Rattle.read_back.specs.CsvReading.{Reads, field_of}
use Rattle.forms.specs.declared.form.Form.TheVariants.{Csv}

pub or_right : (a b : Bool) → (a || b) ≡ false → b ≡ false
or_right false b e = e
or_right true b e = cc e

pub or_left : (a b : Bool) → (a || b) ≡ false → a ≡ false
or_left false b e = refl
or_left true b e = cc e

-- a field is written so that the reader stands at its end with this value, before a byte that is no quote
abbrev IsField : List ℕ → List ℕ → Type 0
IsField text value = (fields : List (List ℕ)) (c : ℕ) (tail : List ℕ) → (c == 34) ≡ false →
    next_record default_config st.StartField fields [] (text ++ c ∷ tail) ≡ next_record default_config st.InField fields value (c ∷ tail)

-- ---- fields

-- the marks of a report are those of the writer
needs_is : (b : ℕ) → needs_byte default_writer b ≡ is_mark b
needs_is b = go (b == 44) (b == 34) (b == 13) (b == 10) where
  go : (comma quote return feed : Bool) → (comma || quote || (return || feed) || false || false) ≡ (comma || quote || return || feed)
  go true quote return feed = refl
  go false true return feed = refl
  go false false true feed = refl
  go false false false true = refl
  go false false false false = refl

any_is : (text : List ℕ) → list_any (needs_byte default_writer) text ≡ list_any is_mark text
any_is [] = refl
any_is (b ∷ text) = rw (needs_is b, any_is text) refl

not_quote : (b : ℕ) → is_mark b ≡ false → (b == 34) ≡ false
not_quote b e = or_right (b == 44) (b == 34) (or_left (b == 44 || b == 34) (b == 13) (or_left (b == 44 || b == 34 || b == 13) (b == 10) e))

-- bytes without a mark stand for themselves
bare_field : (text : List ℕ) → list_any is_mark text ≡ false → IsField text text
bare_field [] plain fields c tail n = start-same fields [] c tail n
bare_field (b ∷ text) plain fields c tail n =
    start-same fields [] b (text ++ c ∷ tail) (not_quote b (or_left _ _ plain))
    ∙ plain-run fields [] (b ∷ text) (c ∷ tail) (any_is (b ∷ text) ∙ plain)

escaped_is : (text : List ℕ) → escaped default_writer text ≡ flat_map doubled_byte text
unfolding escaped
escaped_is [] = refl
escaped_is (b ∷ text) = elim (cases_Bool (b == 34)) [
  | inl quote ↦ rw (quote, escaped_is text) (ap (λ (k : ℕ). 34 ∷ k ∷ flat_map doubled_byte text) (eqb-true b 34 quote))
  | inr other ↦ rw (other, escaped_is text) refl
]

quoted_field : (text : List ℕ) → IsField (in_quotes text) text
unfolding next_record
quoted_field text fields c tail n =
    let spelt : in_quotes text ++ c ∷ tail ≡ 34 ∷ (escaped default_writer text ++ (34 ∷ c ∷ tail)) =
    ap (λ l. 34 ∷ l) (append_assoc (flat_map doubled_byte text) (34 ∷ []) (c ∷ tail) ∙ ap (λ l. l ++ (34 ∷ c ∷ tail)) (sym (escaped_is text))) in
    ap (next_record default_config st.StartField fields []) spelt ∙ quoted-run fields [] text (c ∷ tail) ∙ after-quote-same fields text c tail n

-- ---- integers

far : (b : ℕ) → 44 < b → is_mark b ≡ false
far b e =
    let comma : (b == 44) ≡ false = grind (arith, nat_tests) in
    let quote : (b == 34) ≡ false = grind (arith, nat_tests) in
    let return : (b == 13) ≡ false = grind (arith, nat_tests) in
    let feed : (b == 10) ≡ false = grind (arith, nat_tests) in
    rw (comma, quote, return, feed) refl

digit_plain : (d : ℕ) → is_mark (digit_glyph false d) ≡ false
digit_plain d = elim (cases_Bool (nat_lt d 10)) [
  | inl small ↦ rw small (far (48 + d) (omega arith))
  | inr other ↦ rw other (far (87 + d) (omega arith))
]

onto_plain : (k n : ℕ) (acc : List ℕ) → list_any is_mark acc ≡ false → list_any is_mark (digits_onto k 10 false n acc) ≡ false
onto_plain zero n acc e = e
onto_plain (suc k) n acc e =
    let more : list_any is_mark (digit_glyph false (n % 10) ∷ acc) ≡ false = rw (digit_plain (n % 10)) e in
    elim (cases_Bool (n / 10 == 0)) [
      | inl last ↦ rw last more
      | inr goes ↦ rw goes (onto_plain k (n / 10) (digit_glyph false (n % 10) ∷ acc) more)
    ]

decimal_plain : (n : ℕ) → list_any is_mark (decimal n) ≡ false
unfolding digits
decimal_plain n = onto_plain 64 n [] refl

signed_plain : (z : ℤ) → list_any is_mark (signed_decimal z) ≡ false
signed_plain (pos n) = decimal_plain n
signed_plain (negsuc n) = decimal_plain (suc n)

-- a text that is not empty
pub record IsBegun (text : List ℕ) : Type 0 where
  pub first : ℕ
  pub rest : List ℕ
  pub is : text ≡ first ∷ rest

onto_begun : (k n d : ℕ) (acc : List ℕ) → IsBegun (digits_onto k 10 false n (d ∷ acc))
onto_begun zero n d acc = record { first = d; rest = acc; is = refl }
onto_begun (suc k) n d acc = elim (cases_Bool (n / 10 == 0)) [
  | inl last ↦ record { first = digit_glyph false (n % 10); rest = d ∷ acc; is = rw last refl }
  | inr goes ↦ let begun = onto_begun k (n / 10) (digit_glyph false (n % 10)) (d ∷ acc) in
      record { first = begun.first; rest = begun.rest; is = rw goes begun.is }
]

decimal_begun : (n : ℕ) → IsBegun (decimal n)
unfolding digits
decimal_begun n = elim (cases_Bool (n / 10 == 0)) [
  | inl last ↦ record { first = digit_glyph false (n % 10); rest = []; is = rw last refl }
  | inr goes ↦ let begun = onto_begun 63 (n / 10) (digit_glyph false (n % 10)) [] in
      record { first = begun.first; rest = begun.rest; is = rw goes begun.is }
]

pub signed_begun : (z : ℤ) → IsBegun (signed_decimal z)
signed_begun (pos n) = decimal_begun n
signed_begun (negsuc n) = record { first = 45; rest = decimal (suc n); is = refl }

-- and the first byte of an integer is low
pub record IsLow (text : List ℕ) : Type 0 where
  pub first : ℕ
  pub rest : List ℕ
  pub is : text ≡ first ∷ rest
  pub low : first < 128

glyph_low : (d : ℕ) → d < 16 → digit_glyph false d < 128
glyph_low d small = elim (cases_Bool (nat_lt d 10)) [
  | inl digit ↦ rw digit (omega arith)
  | inr other ↦ rw other (omega arith)
]

onto_low : (k n d : ℕ) (acc : List ℕ) → d < 128 → IsLow (digits_onto k 10 false n (d ∷ acc))
onto_low zero n d acc low = record { first = d; rest = acc; is = refl; low = low }
onto_low (suc k) n d acc low = elim (cases_Bool (n / 10 == 0)) [
  | inl last ↦ record { first = digit_glyph false (n % 10); rest = d ∷ acc; is = rw last refl; low = glyph_low (n % 10) (omega arith) }
  | inr goes ↦ let more = onto_low k (n / 10) (digit_glyph false (n % 10)) (d ∷ acc) (glyph_low (n % 10) (omega arith)) in
      record { first = more.first; rest = more.rest; is = rw goes more.is; low = more.low }
]

decimal_low : (n : ℕ) → IsLow (decimal n)
unfolding digits
decimal_low n = elim (cases_Bool (n / 10 == 0)) [
  | inl last ↦ record { first = digit_glyph false (n % 10); rest = []; is = rw last refl; low = glyph_low (n % 10) (omega arith) }
  | inr goes ↦ let more = onto_low 63 (n / 10) (digit_glyph false (n % 10)) [] (glyph_low (n % 10) (omega arith)) in
      record { first = more.first; rest = more.rest; is = rw goes more.is; low = more.low }
]

pub signed_low : (z : ℤ) → IsLow (signed_decimal z)
signed_low (pos n) = decimal_low n
signed_low (negsuc n) = record { first = 45; rest = decimal (suc n); is = refl; low = omega arith }

-- ---- records

-- the fields behind the first
abbrev pub later : {X : Type 0} → (X → List ℕ) → List X → List ℕ
later text xs = flat_map (λ x. 44 ∷ text x) xs

-- a field is followed by a comma or by the end of the line
field_then : {X : Type 0} (text value : X → List ℕ) → ((x : X) → IsField (text x) (value x)) → (xs : List X) (fields : List (List ℕ)) (x : X) (tail : List ℕ) →
    next_record default_config st.StartField fields [] (text x ++ (later text xs ++ 10 ∷ tail)) ≡ next_record default_config st.InField fields (value x) (later text xs ++ 10 ∷ tail)
field_then text value spelt [] fields x tail = spelt x fields 10 tail refl
field_then text value spelt (y ∷ ys) fields x tail = spelt x fields 44 ((text y ++ later text ys) ++ 10 ∷ tail) refl

rest_read : {X : Type 0} (text value : X → List ℕ) → ((x : X) → IsField (text x) (value x)) → (xs : List X) (fields : List (List ℕ)) (field tail : List ℕ) →
    next_record default_config st.InField fields field (later text xs ++ 10 ∷ tail) ≡ Some (fields ++ field ∷ map value xs, st.StartRecord, tail)
unfolding next_record
rest_read text value spelt [] fields field tail = refl
rest_read text value spelt (x ∷ xs) fields field tail =
    ap (next_record default_config st.StartField (fields ++ field ∷ []) []) (append_assoc (text x) (later text xs) (10 ∷ tail))
    ∙ field_then text value spelt xs (fields ++ field ∷ []) x tail
    ∙ rest_read text value spelt xs (fields ++ field ∷ []) (value x) tail
    ∙ ap (λ l. Some (l, st.StartRecord, tail)) (append_assoc fields (field ∷ []) (value x ∷ map value xs))

-- the first byte of a record ends no record
abbrev Starts : List ℕ → Type 0
Starts text = next_record default_config st.StartRecord [] [] text ≡ next_record default_config st.StartField [] [] text

record_read : {X : Type 0} (text value : X → List ℕ) → ((x : X) → IsField (text x) (value x)) → (x : X) (xs : List X) (tail : List ℕ) →
    Starts (text x ++ (later text xs ++ 10 ∷ tail)) →
    next_record default_config st.StartRecord [] [] ((join_by text (44 ∷ []) (x ∷ xs) ++ 10 ∷ []) ++ tail) ≡ Some (map value (x ∷ xs), st.StartRecord, tail)
record_read text value spelt x xs tail starts =
    ap (next_record default_config st.StartRecord [] []) (append_assoc (text x ++ later text xs) (10 ∷ []) tail ∙ append_assoc (text x) (later text xs) (10 ∷ tail))
    ∙ starts
    ∙ field_then text value spelt xs [] x tail
    ∙ rest_read text value spelt xs [] (value x) tail

bare_starts : (text tail : List ℕ) → IsBegun text → list_any is_mark text ≡ false → Starts (text ++ tail)
bare_starts [] tail begun plain = absurd (cc begun.is)
bare_starts (b ∷ text) tail begun plain =
    let marks = or_left (is_mark b) (list_any is_mark text) plain in
    let before = or_left (b == 44 || b == 34 || b == 13) (b == 10) marks in
    record-same [] [] b (text ++ tail) (or_right (b == 44 || b == 34) (b == 13) before) (or_right (b == 44 || b == 34 || b == 13) (b == 10) marks)

quoted_starts : (text tail : List ℕ) → Starts (in_quotes text ++ tail)
quoted_starts text tail = record-same [] [] 34 ((flat_map doubled_byte text ++ 34 ∷ []) ++ tail) refl refl

-- ---- reports

header_read : (heading : List ℕ) (headings : List (List ℕ)) (tail : List ℕ) →
    next_record default_config st.StartRecord [] [] (csv_header (heading ∷ headings) ++ tail) ≡ Some (map (λ h. h) (heading ∷ headings), st.StartRecord, tail)
header_read heading headings tail = record_read in_quotes (λ h. h) quoted_field heading headings tail (quoted_starts heading (later in_quotes headings ++ 10 ∷ tail))

-- a text is written as a field
text_field_read : (text : List ℕ) → IsField (text_field text) text
text_field_read text fields c tail n = elim (cases_Bool (needs_quotes text)) [
  | inl needs ↦ rw needs (quoted_field text fields c tail n)
  | inr bare ↦ rw bare (bare_field text (or_right (length text == 0 || has_blank_end text || begins_with_bom text) (list_any is_mark text) bare) fields c tail n)
]

field_read : (total : Total) → IsField (csv_field total) (field_of total)
field_read Null = bare_field [] refl
field_read (Int n) = bare_field (signed_decimal n) (signed_plain n)
field_read (Text text) = text_field_read text

pub begun_of : (text : List ℕ) → (length text == 0) ≡ false → IsBegun text
begun_of [] e = cc e
begun_of (b ∷ text) e = record { first = b; rest = text; is = refl }

text_starts : (text tail : List ℕ) → Starts (text_field text ++ tail)
text_starts text tail = elim (cases_Bool (needs_quotes text)) [
  | inl needs ↦ rw needs (quoted_starts text tail)
  | inr bare ↦
      let some = or_left (length text == 0) (has_blank_end text) (or_left (length text == 0 || has_blank_end text) (begins_with_bom text)
      (or_left (length text == 0 || has_blank_end text || begins_with_bom text) (list_any is_mark text) bare)) in
      let plain = or_right (length text == 0 || has_blank_end text || begins_with_bom text) (list_any is_mark text) bare in
      rw bare (bare_starts text tail (begun_of text some) plain)
]

fields_start : (total : Total) (totals : List Total) (tail : List ℕ) → is_lone_null (total ∷ totals) ≡ false → Starts (csv_field total ++ (later csv_field totals ++ 10 ∷ tail))
fields_start Null [] tail e = cc e
fields_start Null (t ∷ totals) tail e = record-same [] [] 44 ((csv_field t ++ later csv_field totals) ++ 10 ∷ tail) refl refl
fields_start (Int n) totals tail e = bare_starts (signed_decimal n) (later csv_field totals ++ 10 ∷ tail) (signed_begun n) (signed_plain n)
fields_start (Text text) totals tail e = text_starts text (later csv_field totals ++ 10 ∷ tail)

lone_is : (total : Total) (totals : List Total) → is_lone_null (total ∷ totals) ≡ true → map field_of (total ∷ totals) ≡ [] ∷ []
lone_is Null [] e = refl
lone_is Null (t ∷ totals) e = cc e
lone_is (Int n) totals e = cc e
lone_is (Text text) totals e = cc e

pub row_read : (total : Total) (totals : List Total) (tail : List ℕ) →
    next_record default_config st.StartRecord [] [] (csv_row (total ∷ totals) ++ tail) ≡ Some (map field_of (total ∷ totals), st.StartRecord, tail)
unfolding next_record
row_read total totals tail = elim (cases_Bool (is_lone_null (total ∷ totals))) [
  | inl lone ↦ rw lone (ap (λ (l : List (List ℕ)). Some (l, st.StartRecord, tail)) (sym (lone_is total totals lone)))
  | inr other ↦ rw other (record_read csv_field field_of field_read total totals tail (fields_start total totals tail other))
]

rows_read : (rows : List (List Total)) → All (λ row. row ≢ []) rows → Reached default_config st.StartRecord (flat_map csv_row rows) (map (map field_of) rows) st.StartRecord []
unfolding Reached
rows_read [] full = (refl, refl)
rows_read ([] ∷ rows) full = absurd (All-head (λ row. row ≢ []) [] rows full refl)
rows_read ((total ∷ totals) ∷ rows) full = (
  (map field_of (total ∷ totals), st.StartRecord, flat_map csv_row rows),
  row_read total totals (flat_map csv_row rows),
  refl,
  rows_read rows (All-tail (λ row. row ≢ []) (total ∷ totals) rows full),
)

id_map : (headings : List (List ℕ)) → headings ≡ map (λ h. h) headings
id_map [] = refl
id_map (h ∷ headings) = ap (λ l. h ∷ l) (id_map headings)

all_read : (headings : List (List ℕ)) (rows : List (List Total)) → headings ≢ [] → All (λ row. row ≢ []) rows →
    Reached default_config st.StartRecord (csv_header headings ++ flat_map csv_row rows) (headings ∷ map (map field_of) rows) st.StartRecord []
unfolding Reached
all_read [] rows some full = absurd (some refl)
all_read (heading ∷ headings) rows some full = (
  (map (λ h. h) (heading ∷ headings), st.StartRecord, flat_map csv_row rows),
  header_read heading headings (flat_map csv_row rows),
  id_map (heading ∷ headings),
  rows_read rows full,
)

-- a text that begins with a quote begins with no byte order mark
pub quote_first : (bytes : List ℕ) → strip_bom (34 ∷ bytes) ≡ 34 ∷ bytes
unfolding strip_bom
quote_first [] = refl
quote_first (b ∷ []) = refl
quote_first (b ∷ c ∷ bytes) = refl

no_bom : (heading : List ℕ) (headings : List (List ℕ)) (tail : List ℕ) → strip_bom (csv_header (heading ∷ headings) ++ tail) ≡ csv_header (heading ∷ headings) ++ tail
no_bom heading headings tail = quote_first ((((flat_map doubled_byte heading ++ 34 ∷ []) ++ later in_quotes headings) ++ 10 ∷ []) ++ tail)

pub report_read : (headings : List (List ℕ)) (rows : List (List Total)) → headings ≢ [] → All (λ row. row ≢ []) rows →
    Reads (report_in Csv headings rows) (headings ∷ map (map field_of) rows)
unfolding next_record
report_read [] rows some full = absurd (some refl)
report_read (heading ∷ headings) rows some full = (
  st.StartRecord,
  [],
  subst (λ bytes. Reached default_config st.StartRecord bytes ((heading ∷ headings) ∷ map (map field_of) rows) st.StartRecord []) (sym (no_bom heading headings (flat_map csv_row rows)))
      (all_read (heading ∷ headings) rows some full),
  refl,
)
