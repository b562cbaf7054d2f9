-- What is proposed for the columns of parts: of which type each is, and which is the key.
use Rattle.std.specs.Prelude.{◌≡◌, ◌==◌, ◌<◌, ◌&&◌, ◌||◌, Bool, ℕ, ℤ, pos, List, [], ◌∷◌, true, false, bytes_eq, drop, length, map, unwrap_or, if◌then◌else◌}
use Rattle.std.specs.Fmt.{signed_decimal}
use Rattle.std.specs.Ordering.{int_eq}
use Rattle.std.specs.List.{AllByRecursion, IsDistinct, flat_map, list_all, slice_index_or}
use Rattle.std.specs.Option.{option_map_or}
use Rattle.csv.specs.Records.{field_at}
use Rattle.csv.specs.Writing.{comma}
use Rattle.cells.specs.Integers.{integer_of}
use Rattle.cells.specs.declared.schema.ColumnType.{ColumnType}
use Rattle.cells.specs.declared.schema.ColumnType.TheVariants.{Int, Text}
use Rattle.records.specs.Records.{Fields, records_of}

-- the records of parts, without their headers
abbrev pub rows_of : List (List ℕ) → List Fields
rows_of = flat_map (λ part. drop 1 (records_of comma part))

-- the field at a place; one that is not there is as an empty one
abbrev pub field_in : ℕ → Fields → List ℕ
field_in place fields = unwrap_or (field_at fields place) []

-- the fields of the column at a place
abbrev pub column_of : ℕ → List Fields → Fields
column_of place = map (field_in place)

-- ---- types

-- an empty field is NULL
abbrev pub is_null : List ℕ → Bool
is_null [] = true
is_null (b ∷ bs) = false

-- it spells an integer of 64 bits as it is printed: without a plus, without a zero in front of digits, and not as -0
abbrev pub is_printed : List ℕ → Bool
is_printed field = option_map_or (λ number. bytes_eq (signed_decimal number) field) (integer_of field) false

-- it begins with a zero and goes on, or with a minus and a zero
abbrev pub is_padded : List ℕ → Bool
is_padded [] = false
is_padded (first ∷ []) = false
is_padded (first ∷ second ∷ rest) = (first == 48) || ((first == 45) && (second == 48))

-- it is NULL, or an integer as it is printed
abbrev pub fits_int : List ℕ → Bool
fits_int field = is_null field || is_printed field

-- INT where each field is NULL or an integer as it is printed, else TEXT
abbrev pub type_of : Fields → ColumnType
type_of fields = if list_all fits_int fields then Int else Text

-- the type of a column with one field more
abbrev pub narrowed : ColumnType → List ℕ → ColumnType
narrowed Int field = if fits_int field then Int else Text
narrowed Text field = Text

-- the types of so many columns
pub record AreTypes (rows : List Fields) (count : ℕ) (types : List ColumnType) : Type 0 where
  pub all : length types ≡ count
  pub each : (place : ℕ) → place < count → slice_index_or types place Text ≡ type_of (column_of place rows)

-- ---- the key

-- no field is NULL, and no two have one value
pub record AreKeys {V : Type 0} (eq : V → V → Bool) (value : List ℕ → V) (fields : Fields) : Type 0 where
  pub filled : AllByRecursion (λ field. is_null field ≡ false) fields
  pub different : IsDistinct eq (map value fields)

-- the value of an integer that a field spells
abbrev pub integer_in : List ℕ → ℤ
integer_in field = unwrap_or (integer_of field) (pos 0)

-- the column may be the key: its integers differ by value, and its texts by their bytes
abbrev pub IsKey : ColumnType → Fields → Type 0
IsKey Int fields = AreKeys int_eq integer_in fields
IsKey Text fields = AreKeys bytes_eq (λ field. field) fields

-- the column at a place may be, where columns have these types
abbrev pub IsKeyAt : List Fields → List ColumnType → ℕ → Type 0
IsKeyAt rows types place = IsKey (slice_index_or types place Text) (column_of place rows)

-- none of the columns may be
abbrev pub HasNoKey : List Fields → List ColumnType → Type 0
HasNoKey rows types = (place : ℕ) → place < length types → IsKeyAt rows types place → ⊥

-- this is the first that may be
pub record IsFirstKey (rows : List Fields) (types : List ColumnType) (place : ℕ) : Type 0 where
  pub within : place < length types
  pub is : IsKeyAt rows types place
  pub first : (other : ℕ) → other < place → IsKeyAt rows types other → ⊥
