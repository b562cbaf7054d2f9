-- A row in CSV, by itself, is read as the one record of its fields.
use Rattle.std.proofs.Common.{◌≡◌, ◌<◌, ◌+◌, ◌==◌, ◌++◌, ◌∷◌, ◌∙◌, [], ℕ, zero, suc, List, Bool, Some, refl, sym, ap, subst, true, false, add-one, append_assoc, append-nil, inl, inr, arith, length, map}
use Rattle.std.proofs.lemmas.Bool.{cases_Bool}
use Rattle.std.proofs.lemmas.Bool.Decides.{nat_tests}
use Rattle.std.specs.Prelude.{◌&&◌, ◌||◌, ℤ}
use Rattle.std.specs.Fmt.{signed_decimal}
use Rattle.std.specs.List.{flat_map, list_any}
use Rattle.csv.specs.Machine.{next_record}
use Rattle.csv.specs.Reading.{default_config, is_bom, records, records_from, records_next, strip_bom}
use Rattle.csv.specs.declared.parser.State.{State}
use Rattle.csv.specs.declared.parser.State.TheVariants as st
use Rattle.cells.specs.declared.total.Total.{Total}
use Rattle.cells.specs.declared.total.Total.TheVariants.{Null, Int, Text}
use Rattle.forms.specs.Csv.{begins_with_bom, csv_field, csv_row, doubled_byte, has_blank_end, is_lone_null, is_mark, needs_quotes, text_field}
use Rattle.loader.specs.Records.{records_of}
use Rattle.read_back.specs.CsvReading.{field_of}
use Rattle.read_back.proofs.CsvLemmas.{IsBegun, IsLow, begun_of, later, or_left, or_right, quote_first, row_read, signed_low}

-- ---- one record

turn : (n : ℕ) (s : State) (text : List ℕ) → records_from default_config (n + 1) s text ≡ records_next (records_from default_config n) (next_record default_config s [] [] text)
unfolding records_from
turn n s text = rw add-one refl

-- no record is left at the end of a text
none_left : (n : ℕ) → records_from default_config n st.StartRecord [] ≡ []
unfolding next_record records_from
none_left zero = refl
none_left (suc n) = refl

sole_record : (text : List ℕ) (fields : List (List ℕ)) → next_record default_config st.StartRecord [] [] text ≡ Some (fields, st.StartRecord, []) → records default_config text ≡ fields ∷ []
sole_record text fields is =
    turn (length text) st.StartRecord text
    ∙ ap (records_next (records_from default_config (length text))) is
    ∙ ap (λ (more : List (List (List ℕ))). fields ∷ more) (none_left (length text))

-- ---- no byte order mark stands before it

first_other : (a b c : Bool) → a ≡ false → (a && b && c) ≡ false
first_other true b c e = cc
first_other false b c e = refl

second_other : (a b c : Bool) → b ≡ false → (a && b && c) ≡ false
second_other true true c e = cc
second_other true false c e = refl
second_other false b c e = refl

third_other : (a b c : Bool) → c ≡ false → (a && b && c) ≡ false
third_other true true c e = e
third_other true false c e = refl
third_other false b c e = refl

-- three bytes that are none
no_mark : (a b c : ℕ) (bytes : List ℕ) → is_bom a b c ≡ false → strip_bom (a ∷ b ∷ c ∷ bytes) ≡ a ∷ b ∷ c ∷ bytes
unfolding strip_bom
no_mark a b c bytes e = rw e refl

-- a low byte is none of a mark's
low_first : (b : ℕ) (bytes : List ℕ) → b < 128 → strip_bom (b ∷ bytes) ≡ b ∷ bytes
unfolding strip_bom
low_first b [] low = refl
low_first b (c ∷ []) low = refl
low_first b (c ∷ d ∷ bytes) low = no_mark b c d bytes (first_other (b == 239) (c == 187) (d == 191) (grind (arith, nat_tests)))

low_second : (a b : ℕ) (bytes : List ℕ) → b < 128 → strip_bom (a ∷ b ∷ bytes) ≡ a ∷ b ∷ bytes
unfolding strip_bom
low_second a b [] low = refl
low_second a b (c ∷ bytes) low = no_mark a b c bytes (second_other (a == 239) (b == 187) (c == 191) (grind (arith, nat_tests)))

low_third : (a b c : ℕ) (bytes : List ℕ) → c < 128 → strip_bom (a ∷ b ∷ c ∷ bytes) ≡ a ∷ b ∷ c ∷ bytes
low_third a b c bytes low = no_mark a b c bytes (third_other (a == 239) (b == 187) (c == 191) (grind (arith, nat_tests)))

-- a bare text, before a low byte
bare_unmarked : (text : List ℕ) (c : ℕ) (bytes : List ℕ) → IsBegun text → begins_with_bom text ≡ false → c < 128 → strip_bom (text ++ c ∷ bytes) ≡ text ++ c ∷ bytes
bare_unmarked [] c bytes begun none low = absurd (cc begun.is)
bare_unmarked (x ∷ []) c bytes begun none low = low_second x c bytes low
bare_unmarked (x ∷ y ∷ []) c bytes begun none low = low_third x y c bytes low
bare_unmarked (x ∷ y ∷ z ∷ text) c bytes begun none low = no_mark x y z (text ++ c ∷ bytes) none

-- what follows the first field
later_low : (totals : List Total) → IsLow (later csv_field totals ++ 10 ∷ [])
later_low [] = record { first = 10; rest = []; is = refl; low = omega arith }
later_low (t ∷ totals) = record { first = 44; rest = (csv_field t ++ later csv_field totals) ++ 10 ∷ []; is = refl; low = omega arith }

-- a row is what its first field is, and what follows that
text_unmarked : (text bytes : List ℕ) → IsLow bytes → strip_bom (text_field text ++ bytes) ≡ text_field text ++ bytes
text_unmarked text bytes behind = elim (cases_Bool (needs_quotes text)) [
  | inl needs ↦ rw needs (quote_first ((flat_map doubled_byte text ++ 34 ∷ []) ++ bytes))
  | inr bare ↦
      let marks = or_left (length text == 0 || has_blank_end text || begins_with_bom text) (list_any is_mark text) bare in
      let some = or_left (length text == 0) (has_blank_end text) (or_left (length text == 0 || has_blank_end text) (begins_with_bom text) marks) in
      let none = or_right (length text == 0 || has_blank_end text) (begins_with_bom text) marks in
      rw bare (subst (λ l. strip_bom (text ++ l) ≡ text ++ l) (sym behind.is) (bare_unmarked text behind.first behind.rest (begun_of text some) none behind.low))
]

signed_unmarked : (n : ℤ) (bytes : List ℕ) → strip_bom (signed_decimal n ++ bytes) ≡ signed_decimal n ++ bytes
signed_unmarked n bytes =
    let begun = signed_low n in
    subst (λ l. strip_bom (l ++ bytes) ≡ l ++ bytes) (sym begun.is) (low_first begun.first (begun.rest ++ bytes) begun.low)

fields_unmarked : (total : Total) (totals : List Total) → is_lone_null (total ∷ totals) ≡ false → strip_bom (csv_field total ++ (later csv_field totals ++ 10 ∷ [])) ≡ csv_field total ++ (later csv_field totals ++ 10 ∷ [])
fields_unmarked Null [] other = cc other
fields_unmarked Null (t ∷ totals) other = low_first 44 ((csv_field t ++ later csv_field totals) ++ 10 ∷ []) (omega arith)
fields_unmarked (Int n) totals other = signed_unmarked n (later csv_field totals ++ 10 ∷ [])
fields_unmarked (Text text) totals other = text_unmarked text (later csv_field totals ++ 10 ∷ []) (later_low totals)

row_unmarked : (total : Total) (totals : List Total) → strip_bom (csv_row (total ∷ totals)) ≡ csv_row (total ∷ totals)
row_unmarked total totals = elim (cases_Bool (is_lone_null (total ∷ totals))) [
  | inl lone ↦ rw lone (quote_first (34 ∷ 10 ∷ []))
  | inr other ↦ rw other (subst (λ l. strip_bom l ≡ l) (sym (append_assoc (csv_field total) (later csv_field totals) (10 ∷ []))) (fields_unmarked total totals other))
]

-- a row is one record
pub row_records : (total : Total) (totals : List Total) → records_of (csv_row (total ∷ totals)) ≡ map field_of (total ∷ totals) ∷ []
row_records total totals =
    ap (records default_config) (row_unmarked total totals)
    ∙ sole_record (csv_row (total ∷ totals)) (map field_of (total ∷ totals))
    (ap (next_record default_config st.StartRecord [] []) (sym (append-nil (csv_row (total ∷ totals)))) ∙ row_read total totals [])
