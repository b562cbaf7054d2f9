-- Columns of a file under names of a table.
use Rattle.std.specs.Prelude.{◌≡◌, ◌<◌, ◌+◌, ◌==◌, ⊤, Bool, ℕ, List, [], ◌∷◌, Option, Some, None, bytes_eq, drop, false, length, map, position, take, true, if◌then◌else◌}
use Rattle.std.specs.List.{IsDistinct, list_all, list_any}
use Rattle.std.specs.Str.{is_utf8}
use Rattle.csv.specs.Records.{trimmed}
use Rattle.csv.specs.Writing.{comma}
use Rattle.cells.specs.declared.token.Token.{Token}
use Rattle.cells.specs.declared.token.Token.TheVariants.{Word, Number, Quoted, Mark}
use Rattle.records.specs.Records.{Fields, records_of}
use Rattle.prepare.specs.Words.{word_of}
use Rattle.prepare.specs.declared.choice.Chosen.{Chosen}
use Rattle.prepare.specs.declared.listed.Form.{Form}
use Rattle.prepare.specs.declared.listed.Form.TheVariants as form
use Rattle.prepare.specs.declared.listed.ListFault.{ListFault}
use Rattle.prepare.specs.declared.listed.ListFault.TheVariants.{NotText, OutOfMemory}

-- a column by its name in the file, and its name in the table
pub record Naming : Type 0 where
  pub name : List ℕ
  pub word : List ℕ

abbrev pub naming_of : Chosen → Naming
naming_of c = record { name = c.name; word = c.word }

-- a column of a header is under the word that its name makes
abbrev pub by_name : List ℕ → Naming
by_name name = record { name = name; word = word_of name }

-- ---- a list of columns: the one record of a text

-- where `=` stands first, the name follows it, and what is before it makes the word
abbrev pub named_at : Option ℕ → List ℕ → Naming
named_at None field = by_name field
named_at (Some at) field = record { name = drop (at + 1) field; word = word_of (take at field) }

abbrev pub listed : List ℕ → Naming
listed field = named_at (position (λ byte. byte == 61) field) field

-- the fields of the first record, or none
abbrev pub first_record : List Fields → Fields
first_record [] = []
first_record (fields ∷ later) = fields

abbrev pub listed_in : List ℕ → List Naming
listed_in text = map listed (first_record (records_of comma text))

-- the column that a field names
abbrev pub naming_by : Form → List ℕ → Naming
naming_by form.Name = by_name
naming_by form.List = listed

-- this is the column of a naming, or its name is no text
abbrev pub IsColumn : Naming → Option Chosen → Type 0
IsColumn naming None = is_utf8 naming.name ≡ false
IsColumn naming (Some column) = (naming_of column ≡ naming) × (is_utf8 naming.name ≡ true)

-- ---- the header of a file

abbrev pub header_in : Bool → List Fields → Option Fields
header_in trims [] = None
header_in trims (fields ∷ later) = Some (if trims then map trimmed fields else fields)

-- ---- the columns that a query names

abbrev pub is_word : List ℕ → Token → Bool
is_word word (Word text) = bytes_eq word text
is_word word (Number n) = false
is_word word (Quoted text) = false
is_word word (Mark mark) = false

abbrev pub is_named : List Token → Chosen → Bool
is_named tokens column = list_any (is_word column.word) tokens

-- ---- names that stand twice

abbrev pub words_in : List Chosen → Fields
words_in = map (λ c. c.word)

-- the column at this place has the name of an earlier one, and those before it have different names
pub record IsAgain (columns : List Chosen) (place : ℕ) : Type 0 where
  pub within : place < length columns
  pub before : IsDistinct bytes_eq (words_in (take place columns))
  pub again : IsDistinct bytes_eq (words_in (take (place + 1) columns)) → ⊥

-- ---- why no column is chosen

-- the name is a text
abbrev pub is_text : Naming → Bool
is_text naming = is_utf8 naming.name

-- the name at this place is no text, and those before it are
pub record IsNoText (namings : List Naming) (place : ℕ) : Type 0 where
  pub within : place < length namings
  pub before : list_all is_text (take place namings) ≡ true
  pub later : list_all is_text (take (place + 1) namings) ≡ false

abbrev pub IsListFault : List Naming → ListFault → Type 0
IsListFault namings (NotText place) = IsNoText namings place
IsListFault namings OutOfMemory = ⊤
