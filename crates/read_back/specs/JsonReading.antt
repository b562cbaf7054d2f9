-- What a reader of JSON (RFC 8259) has of a report.
use Rattle.std.specs.Prelude.{ℕ, ◌≤◌, ◌^◌, ⊤, List, [], ◌∷◌, ◌++◌, codes}
use Rattle.std.specs.Fmt.{signed_decimal}
use Rattle.std.specs.Int.RustNames.{unsigned_abs}
use Rattle.std.specs.List.{flat_map}
use Rattle.json.specs.Token.{Token, begin_array, begin_object, end_array, end_object, key, null, number, string}
use Rattle.cells.specs.declared.total.Total.{Total}
use Rattle.cells.specs.declared.total.Total.TheVariants.{Null, Int, Text}

-- an integer of 128 bits
abbrev pub HasBits : Total → Type 0
HasBits Null = ⊤
HasBits (Int n) = unsigned_abs n ≤ 2 ^ 127
HasBits (Text text) = ⊤

-- the token that a reader has of a value
abbrev pub token_of : Total → Token
token_of Null = null
token_of (Int n) = number (signed_decimal n)
token_of (Text text) = string text

-- an array of these
abbrev pub array_of : List Token → List Token
array_of values = begin_array ∷ (values ++ end_array ∷ [])

abbrev pub row_of : List Total → List Token
row_of totals = array_of (flat_map (λ total. token_of total ∷ []) totals)

-- an object with the array of the headings and the array of the rows
abbrev pub object_of : List (List ℕ) → List (List Total) → List Token
object_of headings rows =
    begin_object ∷ key (codes "columns") ∷ (array_of (flat_map (λ heading. string heading ∷ []) headings)
    ++ key (codes "rows") ∷ (array_of (flat_map row_of rows) ++ end_object ∷ []))
