-- A report as CSV (RFC 4180, section 2), whose lines end with a line feed.
use Rattle.std.specs.Prelude.{ℕ, Bool, true, false, ◌||◌, ◌&&◌, ◌==◌, ◌-◌, List, [], ◌∷◌, ◌++◌, length, slice_index, if◌then◌else◌}
use Rattle.std.specs.Fmt.{signed_decimal}
use Rattle.std.specs.List.{flat_map, join_by, list_any}
use Rattle.cells.specs.Spelling.{is_blank}
use Rattle.cells.specs.declared.total.Total.{Total}
use Rattle.cells.specs.declared.total.Total.TheVariants.{Null, Int, Text}

-- a comma, a quote, a carriage return or a line feed
abbrev pub is_mark : ℕ → Bool
is_mark b = b == 44 || b == 34 || b == 13 || b == 10

-- the text begins with a byte order mark, which a reader would pass over
abbrev pub begins_with_bom : List ℕ → Bool
begins_with_bom text = slice_index text 0 == 239 && slice_index text 1 == 187 && slice_index text 2 == 191

-- a blank stands first or last
abbrev pub has_blank_end : List ℕ → Bool
has_blank_end text = is_blank (slice_index text 0) || is_blank (slice_index text (length text - 1))

-- a text that would not be read back if it stood bare
abbrev pub needs_quotes : List ℕ → Bool
needs_quotes text = length text == 0 || has_blank_end text || begins_with_bom text || list_any is_mark text

-- a quote twice, and any other byte as it is
abbrev pub doubled_byte : ℕ → List ℕ
doubled_byte b = if b == 34 then 34 ∷ 34 ∷ [] else b ∷ []

abbrev pub in_quotes : List ℕ → List ℕ
in_quotes text = 34 ∷ (flat_map doubled_byte text ++ 34 ∷ [])

-- a text, in quotes where it needs them
abbrev pub text_field : List ℕ → List ℕ
text_field text = if needs_quotes text then in_quotes text else text

-- NULL is empty, and an integer stands in decimal
abbrev pub csv_field : Total → List ℕ
csv_field Null = []
csv_field (Int n) = signed_decimal n
csv_field (Text text) = text_field text

-- one NULL alone
abbrev pub is_lone_null : List Total → Bool
is_lone_null (Null ∷ []) = true
is_lone_null totals = false

-- each heading in quotes
abbrev pub csv_header : List (List ℕ) → List ℕ
csv_header headings = join_by in_quotes (44 ∷ []) headings ++ 10 ∷ []

-- the fields of a row; a NULL alone is two quotes, since a reader passes over an empty line
abbrev pub csv_row : List Total → List ℕ
csv_row totals = (if is_lone_null totals then in_quotes [] else join_by csv_field (44 ∷ []) totals) ++ 10 ∷ []
