-- A report as JSON (RFC 8259).
use Rattle.std.specs.Prelude.{ℕ, ◌||◌, ◌==◌, List, [], ◌∷◌, ◌++◌, codes, if◌then◌else◌}
use Rattle.std.specs.Fmt.{signed_decimal}
use Rattle.std.specs.List.{flat_map, join_by}
use Rattle.cells.specs.declared.total.Total.{Total}
use Rattle.cells.specs.declared.total.Total.TheVariants.{Null, Int, Text}
use Rattle.forms.specs.Escapes.{shown_byte}

-- a quote and a backslash stand behind a backslash, and controls are escaped
abbrev pub json_byte : ℕ → List ℕ
json_byte b = if b == 34 || b == 92 then 92 ∷ b ∷ [] else shown_byte b

abbrev pub json_string : List ℕ → List ℕ
json_string text = 34 ∷ (flat_map json_byte text ++ 34 ∷ [])

abbrev pub json_value : Total → List ℕ
json_value Null = codes "null"
json_value (Int n) = signed_decimal n
json_value (Text text) = json_string text

-- an array of these
abbrev pub json_array : {X : Type 0} → (X → List ℕ) → List X → List ℕ
json_array text values = 91 ∷ (join_by text (44 ∷ []) values ++ 93 ∷ [])

-- the headings as an array of strings
abbrev pub json_columns : List (List ℕ) → List ℕ
json_columns = json_array json_string

-- a row as an array of its values
abbrev pub json_row : List Total → List ℕ
json_row = json_array json_value
