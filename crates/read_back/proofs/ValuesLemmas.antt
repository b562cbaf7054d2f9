-- A line that values spell does what they say.
use Rattle.std.proofs.Common.{◌≡◌, ◌≢◌, ◌<◌, ◌≤◌, ◌++◌, ◌∷◌, ◌∙◌, ◌↔◌, [], ℕ, List, Some, IsUtf8, Ok, refl, sym, ap, subst, true, false, append-nil, inl, inr, arith, length, map}
use Rattle.std.proofs.lemmas.Bool.{and_parts, cases_Bool}
use Rattle.std.proofs.lemmas.Bool.Decides.{nat_tests}
use Rattle.std.proofs.lemmas.Option.{get_or_from_slice_get}
use Rattle.std.proofs.lemmas.Str.{IsUtf8-append, IsUtf8-nil, is_utf8-from_IsUtf8}
use Rattle.std.specs.Prelude.{FitsSigned, ℤ, pos, negsuc, nat_le, option_and_then, option_map, slice_get, slice_index_or}
use Rattle.std.specs.Char.{is_ascii_digit}
use Rattle.std.specs.Fmt.{decimal, signed_decimal}
use Rattle.std.specs.Int.{w64}
use Rattle.std.specs.List.{AllByRecursion, flat_map, list_all}
use Rattle.std.specs.Str.{is_utf8}
use Rattle.cells.specs.Fitting.{AreOfColumns, IsOfType, IsRowOf}
use Rattle.cells.specs.Limits.{text_limit}
use Rattle.cells.specs.Literals.{literal_of}
use Rattle.cells.specs.Reading.{tokens_of}
use Rattle.cells.specs.Records.{cell_of, cells_of, keyed, row_of, text_cell}
use Rattle.cells.specs.Spelling.{Spells, SpellsRest, doubled, is_blank, without_blanks}
use Rattle.cells.specs.TotalOrder.{cell_total}
use Rattle.cells.specs.Updates.{Delete, Put}
use Rattle.cells.specs.Values.{RowValue, Table}
use Rattle.cells.specs.declared.cell.Cell.{Cell}
use Rattle.cells.specs.declared.cell.Cell.TheVariants as cell
use Rattle.cells.specs.declared.schema.Column.{Column}
use Rattle.cells.specs.declared.schema.ColumnType.{ColumnType}
use Rattle.cells.specs.declared.schema.ColumnType.TheVariants as column
use Rattle.cells.specs.declared.token.Token.{Token}
use Rattle.cells.specs.declared.token.Token.TheVariants.{Number, Quoted}
use Rattle.forms.specs.Csv.{csv_field, csv_row, doubled_byte, is_lone_null, needs_quotes, text_field}
use Rattle.loader.specs.Records.{row_of_text, sole}
use Rattle.script.specs.Deeds.{Updates, deed, deletes, puts}
use Rattle.script.specs.Keys.{key_of_text, sole_literal}
use Rattle.script.specs.ValueLines.{delete_line, put_line}
use Rattle.read_back.specs.CsvReading.{field_of}
use Rattle.read_back.specs.ValueReading.{IsSayable}
use Rattle.read_back.proofs.CsvLemmas.{IsLow, later, signed_low}
use Rattle.read_back.proofs.CsvRowsLemmas.{row_records}
use Rattle.read_back.proofs.IntegersLemmas.{integer_back, integer_utf8, positive_digits}
use Rattle.read_back.proofs.TextsLemmas.{ascii_last, ascii_then, doubled_utf8, twice_utf8}

-- ---- the line of a put is UTF-8

text_utf8 : (text : List ℕ) → IsUtf8 text → IsUtf8 (text_field text)
text_utf8 text utf8 = elim (cases_Bool (needs_quotes text)) [
  | inl needs ↦ rw needs (ascii_then 34 (flat_map doubled_byte text ++ 34 ∷ []) (omega arith) (ascii_last (flat_map doubled_byte text) 34 (omega arith) (twice_utf8 34 (omega arith) text utf8)))
  | inr bare ↦ rw bare utf8
]

field_utf8 : (x : Cell) → IsSayable x → IsUtf8 (csv_field (cell_total x))
field_utf8 cell.Null sayable = IsUtf8-nil
field_utf8 (cell.Int n) sayable = integer_utf8 n sayable
field_utf8 (cell.Text text) sayable = text_utf8 text sayable.utf8

later_utf8 : (xs : List Cell) → AllByRecursion IsSayable xs → IsUtf8 (later csv_field (map cell_total xs))
later_utf8 [] all = IsUtf8-nil
later_utf8 (x ∷ xs) all = ascii_then 44 (csv_field (cell_total x) ++ later csv_field (map cell_total xs)) (omega arith) (IsUtf8-append (csv_field (cell_total x)) (later csv_field (map cell_total xs)) (field_utf8 x all.0) (later_utf8 xs all.1))

row_utf8 : (x : Cell) (xs : List Cell) → AllByRecursion IsSayable (x ∷ xs) → IsUtf8 (csv_row (map cell_total (x ∷ xs)))
row_utf8 x xs all = elim (cases_Bool (is_lone_null (map cell_total (x ∷ xs)))) [
  | inl lone ↦ rw lone (ascii_then 34 (34 ∷ 10 ∷ []) (omega arith) (ascii_then 34 (10 ∷ []) (omega arith) (ascii_then 10 [] (omega arith) IsUtf8-nil)))
  | inr other ↦ rw other (ascii_last (csv_field (cell_total x) ++ later csv_field (map cell_total xs)) 10 (omega arith) (IsUtf8-append (csv_field (cell_total x)) (later csv_field (map cell_total xs)) (field_utf8 x all.0) (later_utf8 xs all.1)))
]

put_utf8 : (x : Cell) (xs : List Cell) → AllByRecursion IsSayable (x ∷ xs) → IsUtf8 (put_line (x ∷ xs))
put_utf8 x xs all =
    ascii_then 112 _ (omega arith) (ascii_then 117 _ (omega arith) (ascii_then 116 _ (omega arith) (ascii_then 32 _ (omega arith) (row_utf8 x xs all))))

-- ---- its fields are the cells

filled_field : (kind : ColumnType) (bytes : List ℕ) → 0 < length bytes → IsUtf8 bytes → cell_of kind bytes ≡ text_cell kind bytes
filled_field kind [] some utf8 = absurd (omega arith)
filled_field kind (b ∷ bytes) some utf8 = rw (is_utf8-from_IsUtf8 (b ∷ bytes) utf8) refl

begun_some : (bytes : List ℕ) → IsLow bytes → 0 < length bytes
begun_some bytes begun = subst (λ l. 0 < length l) (sym begun.is) (omega arith)

cell_back : (x : Cell) (kind : ColumnType) → IsOfType x kind → IsSayable x → cell_of kind (field_of (cell_total x)) ≡ Some x
cell_back cell.Null kind fits sayable = refl
cell_back (cell.Int n) column.Int fits sayable =
    filled_field column.Int (signed_decimal n) (begun_some (signed_decimal n) (signed_low n)) (integer_utf8 n sayable) ∙ ap (option_map cell.Int) (integer_back n sayable)
cell_back (cell.Int n) column.Text fits sayable = absurd fits
cell_back (cell.Text text) column.Int fits sayable = absurd fits
cell_back (cell.Text text) column.Text fits sayable =
    let few = sayable.few in
    let short : nat_le (length text) text_limit ≡ true = grind (arith, nat_tests) in
    filled_field column.Text text sayable.some sayable.utf8 ∙ rw short refl

cells_back : (xs : List Cell) (columns : List Column) → AreOfColumns xs columns → AllByRecursion IsSayable xs → cells_of columns (map field_of (map cell_total xs)) ≡ Some xs
cells_back [] [] fit all = refl
cells_back [] (c ∷ columns) fit all = absurd fit
cells_back (x ∷ xs) [] fit all = absurd fit
cells_back (x ∷ xs) (c ∷ columns) fit all = rw (cell_back x c.kind fit.0 all.0, cells_back xs columns fit.1 all.1) refl

keyed_back : (x : Cell) (xs : List Cell) → x ≢ cell.Null → keyed x xs ≡ Some (record { key = x; cells = xs })
keyed_back cell.Null xs full = absurd (full refl)
keyed_back (cell.Int n) xs full = refl
keyed_back (cell.Text text) xs full = refl

row_back : (t : Table) (row : RowValue) → IsRowOf t row → AllByRecursion IsSayable row.cells → row_of t (map field_of (map cell_total row.cells)) ≡ Some row
row_back t row fits all =
    ap (option_and_then (λ xs. keyed (slice_index_or xs t.key cell.Null) xs)) (cells_back row.cells t.columns fits.cells all)
    ∙ ap (λ x. keyed x row.cells) (get_or_from_slice_get row.cells t.key row.key cell.Null fits.key)
    ∙ keyed_back row.key row.cells fits.full

put_deed : (t : Table) (xs : List Cell) → is_utf8 (put_line xs) ≡ true → deed (Some t) (put_line xs) ≡ puts (row_of_text t (csv_row (map cell_total xs)))
put_deed t xs utf8 = rw utf8 refl

put_does : (t : Table) (row : RowValue) (xs : List Cell) → row.cells ≡ xs → IsRowOf t row → AllByRecursion IsSayable xs → deed (Some t) (put_line xs) ≡ Ok (Updates (Put row ∷ []))
put_does t row [] is fits all = absurd (let none = subst (λ l. slice_get l t.key ≡ Some row.key) is fits.key in cc)
put_does t row (x ∷ xs) is fits all =
    put_deed t (x ∷ xs) (is_utf8-from_IsUtf8 (put_line (x ∷ xs)) (put_utf8 x xs all))
    ∙ ap (λ (records : List (List (List ℕ))). puts (option_and_then (row_of t) (sole records))) (row_records (cell_total x) (map cell_total xs))
    ∙ ap puts (ap (λ (l : List Cell). row_of t (map field_of (map cell_total l))) (sym is) ∙ row_back t row fits (subst (AllByRecursion IsSayable) (sym is) all))

pub put_says : (t : Table) (row : RowValue) → IsRowOf t row → AllByRecursion IsSayable row.cells → deed (Some t) (put_line row.cells) ≡ Ok (Updates (Put row ∷ []))
put_says t row fits all = put_does t row row.cells refl fits all

-- ---- the line of a delete

literal_utf8 : (x : Cell) → IsSayable x → IsUtf8 (literal_of (cell_total x))
literal_utf8 cell.Null sayable = ascii_then 78 _ (omega arith) (ascii_then 85 _ (omega arith) (ascii_then 76 _ (omega arith) (ascii_then 76 _ (omega arith) IsUtf8-nil)))
literal_utf8 (cell.Int n) sayable = integer_utf8 n sayable
literal_utf8 (cell.Text text) sayable = ascii_then 39 (doubled text ++ 39 ∷ []) (omega arith) (ascii_last (doubled text) 39 (omega arith) (doubled_utf8 text sayable.utf8))

delete_utf8 : (x : Cell) → IsSayable x → IsUtf8 (delete_line x)
delete_utf8 x sayable =
    ascii_then 100 _ (omega arith) (ascii_then 101 _ (omega arith) (ascii_then 108 _ (omega arith) (ascii_then 101 _ (omega arith)
    (ascii_then 116 _ (omega arith) (ascii_then 101 _ (omega arith) (ascii_then 32 _ (omega arith) (literal_utf8 x sayable)))))))

delete_deed : (t : Table) (x : Cell) → is_utf8 (delete_line x) ≡ true → deed (Some t) (delete_line x) ≡ deletes (key_of_text t (literal_of (cell_total x)))
delete_deed t x utf8 = rw utf8 refl

digit_no_blank : (d : ℕ) → is_ascii_digit d ≡ true → is_blank d ≡ false
digit_no_blank d e = grind (arith, nat_tests)

digits_unblanked : (ds : List ℕ) → list_all is_ascii_digit ds ≡ true → without_blanks ds ≡ ds
digits_unblanked [] all = refl
digits_unblanked (d ∷ ds) all = rw (digit_no_blank d (and_parts (is_ascii_digit d) (list_all is_ascii_digit ds) all).0) refl

integer_unblanked : (n : ℤ) → FitsSigned w64 n → without_blanks (signed_decimal n) ≡ signed_decimal n
integer_unblanked (pos n) fits = digits_unblanked (decimal n) (positive_digits n fits)
integer_unblanked (negsuc n) fits = refl

pub integer_spelt : (n : ℤ) → FitsSigned w64 n → Spells (signed_decimal n) (Number n ∷ [])
integer_spelt n fits = subst (λ l. SpellsRest l (Number n ∷ [])) (sym (integer_unblanked n fits)) ([], (signed_decimal n, integer_back n fits, refl, sym (append-nil (signed_decimal n))), refl)

pub text_spelt : (text : List ℕ) → length text ≤ text_limit → Spells (39 ∷ (doubled text ++ 39 ∷ [])) (Quoted text ∷ [])
text_spelt text few = ([], (39 ∷ (doubled text ++ 39 ∷ []), (few, refl), refl, sym (append-nil (39 ∷ (doubled text ++ 39 ∷ [])))), refl)

-- the law by which the tokens that are computed are those spelt
abbrev AreThoseSpelt : Type 0
AreThoseSpelt = (text : List ℕ) (ts : List Token) → (tokens_of text ≡ Some ts) ↔ Spells text ts

key_back : AreThoseSpelt → (x : Cell) (kind : ColumnType) → IsOfType x kind → x ≢ cell.Null → IsSayable x → option_and_then (sole_literal kind) (tokens_of (literal_of (cell_total x))) ≡ Some x
key_back law cell.Null kind fits full sayable = absurd (full refl)
key_back law (cell.Int n) column.Int fits full sayable = ap (option_and_then (sole_literal column.Int)) ((law (signed_decimal n) (Number n ∷ [])).1 (integer_spelt n sayable))
key_back law (cell.Int n) column.Text fits full sayable = absurd fits
key_back law (cell.Text text) column.Int fits full sayable = absurd fits
key_back law (cell.Text text) column.Text fits full sayable =
    ap (option_and_then (sole_literal column.Text)) ((law (39 ∷ (doubled text ++ 39 ∷ [])) (Quoted text ∷ [])).1 (text_spelt text sayable.few))

pub delete_says : AreThoseSpelt → (t : Table) (c : Column) (x : Cell) → slice_get t.columns t.key ≡ Some c → IsOfType x c.kind → x ≢ cell.Null → IsSayable x → deed (Some t) (delete_line x) ≡ Ok (Updates (Delete x ∷ []))
delete_says law t c x at fits full sayable =
    delete_deed t x (is_utf8-from_IsUtf8 (delete_line x) (delete_utf8 x sayable))
    ∙ ap (λ o. deletes (option_and_then (λ (column : Column). option_and_then (sole_literal column.kind) (tokens_of (literal_of (cell_total x)))) o)) at
    ∙ ap deletes (key_back law x c.kind fits full sayable)
