-- The part that is made of a file: the CSV text of the chosen fields of the file's records (RFC 4180, section 2).
use Rattle.std.specs.Prelude.{◌≡◌, ◌==◌, ◌+◌, ⊤, Bool, ℕ, List, [], ◌∷◌, ◌++◌, Option, Some, None, Result, Ok, Err, Vec, bytes_eq, false, length, map, unwrap_or, if◌then◌else◌}
use Rattle.std.specs.Fmt.{decimal}
use Rattle.std.specs.List.{flat_map, range_with_len}
use Rattle.std.specs.declared.alloc.Global.{Global}
use Rattle.csv.specs.Reading.{strip_bom}
use Rattle.csv.specs.Records.{field_at, trimmed}
use Rattle.csv.specs.Writing.{default_writer, row_text}
use Rattle.records.specs.Records.{Fields, records_of}
use Rattle.prepare.specs.Quotes.{IsMisquotedFile, IsWellQuoted}
use Rattle.prepare.specs.Words.{is_same_name, word_of}
use Rattle.prepare.specs.declared.choice.Choice.{Choice}
use Rattle.prepare.specs.declared.choice.Chosen.{Chosen}
use Rattle.prepare.specs.declared.fault.PrepareFault.{PrepareFault}
use Rattle.prepare.specs.declared.header.Case.{Case}
use Rattle.prepare.specs.declared.header.Case.TheVariants.{Any, Same}
use Rattle.prepare.specs.declared.part.MadePart.{MadePart}
use Rattle.prepare.specs.declared.quotes.QuoteFault.{QuoteFault}
use Rattle.prepare.specs.declared.fault.PrepareFault.TheVariants.{NoHeader, NoColumn, Quotes, TwoColumns, Uneven, OutOfMemory}

-- a list, or why there is none
abbrev pub Made : Type 0 → Type 0
Made A = Result (List A) PrepareFault

-- something before what is made
abbrev pub and_first : {A : Type 0} → A → Made A → Made A
and_first x (Ok xs) = Ok (x ∷ xs)
and_first x (Err fault) = Err fault

-- ---- which columns

-- the name of a column, in the same case or in any
abbrev pub is_name : Case → List ℕ → List ℕ → Bool
is_name Same = bytes_eq
is_name Any = is_same_name

-- the places of the names that pass, of which the first has this place
abbrev pub places_where : (List ℕ → Bool) → ℕ → Fields → List ℕ
places_where passes place [] = []
places_where passes place (name ∷ names) = (if passes name then place ∷ [] else []) ++ places_where passes (place + 1) names

-- these, or others where there is none
abbrev pub or_else : List ℕ → List ℕ → List ℕ
or_else [] others = others
or_else (place ∷ places) others = place ∷ places

-- the columns that a name means: those that have it in the same case, or where there is none, in any
abbrev pub meant_by : List ℕ → Fields → List ℕ
meant_by name header = or_else (places_where (is_name Same name) 0 header) (places_where (is_name Any name) 0 header)

-- the one column that is meant by the name that is chosen at a place
abbrev pub the_one : ℕ → List ℕ → Result ℕ PrepareFault
the_one at [] = Err (NoColumn at)
the_one at (place ∷ []) = Ok place
the_one at (first ∷ second ∷ more) = Err (TwoColumns at first second)

-- a column's place before those of later ones
abbrev pub and_place : Result ℕ PrepareFault → Made ℕ → Made ℕ
and_place (Err fault) later = Err fault
and_place (Ok place) later = and_first place later

abbrev pub places_from : ℕ → List Chosen → Fields → Made ℕ
places_from at [] header = Ok []
places_from at (c ∷ cs) header = and_place (the_one at (meant_by c.name header)) (places_from (at + 1) cs header)

-- where the header has the columns that are chosen, or all of them
abbrev pub places_of : Option (Vec Chosen Global) → Fields → Made ℕ
places_of None header = Ok (range_with_len 0 (length header))
places_of (Some columns) header = places_from 0 columns.items header

-- the names that they get in the table
abbrev pub words_of : Option (Vec Chosen Global) → Fields → Fields
words_of None header = map word_of header
words_of (Some columns) header = map (λ c. c.word) columns.items

-- ---- records

-- the fields of a record of the file, without white space at their ends where that is left out
abbrev pub as_read : Choice → Fields → Fields
as_read choice fields = if choice.trims then map trimmed fields else fields

-- a field that is the word for NULL is empty
abbrev pub unless_null : Option (List ℕ) → List ℕ → List ℕ
unless_null None field = field
unless_null (Some word) field = if bytes_eq field word then [] else field

-- the field at a place
abbrev pub field_of : Choice → Fields → ℕ → List ℕ
field_of choice fields place = unless_null choice.null (unwrap_or (field_at fields place) [])

-- this field, where records are counted under a name
abbrev pub first_field : Option (List ℕ) → List ℕ → Fields
first_field None field = []
first_field (Some name) field = field ∷ []

-- the record that the part has of this one of the file, which has its number
abbrev pub record_of : Choice → List ℕ → ℕ → Fields → Fields
record_of choice places number fields = first_field choice.number (decimal (choice.counted + number)) ++ map (field_of choice (as_read choice fields)) places

-- the header that the part has
abbrev pub headed : Option (List ℕ) → Fields → Fields
headed None words = words
headed (Some name) words = name ∷ words

-- the records that are numbered from this one on, each with as many fields as the header
abbrev pub records_from : Choice → List ℕ → ℕ → ℕ → List Fields → Made Fields
records_from choice places width number [] = Ok []
records_from choice places width number (fields ∷ later) =
    if length fields == width then and_first (record_of choice places number fields) (records_from choice places width (number + 1) later)
    else Err (Uneven number (length fields) width)

-- the header, and then the records of these places
abbrev pub under_header : Choice → Fields → List Fields → Made ℕ → Made Fields
under_header choice header later (Err fault) = Err fault
under_header choice header later (Ok places) =
    and_first (headed choice.number (words_of choice.columns (as_read choice header))) (records_from choice places (length header) 1 later)

-- the records of the part that is made of the records of a file
abbrev pub part_of : Choice → List Fields → Made Fields
part_of choice [] = Err NoHeader
part_of choice (header ∷ later) = under_header choice header later (places_of choice.columns (as_read choice header))

-- the CSV text of records
abbrev pub text_of : List Fields → List ℕ
text_of = flat_map (row_text default_writer)

-- the text is one that was there, and then that of the records that are said, of which there are so many
pub record IsTextAfter (before : List ℕ) (said : Made Fields) (part : MadePart) : Type 0 where
  pub rows : List Fields
  pub is : said ≡ Ok rows
  pub written : part.text.items ≡ before ++ text_of rows
  pub counted : part.records ≡ length rows

-- the part is the text of the records that are said: a header, and so many others
pub record IsPart (said : Made Fields) (part : MadePart) : Type 0 where
  pub rows : List Fields
  pub is : said ≡ Ok rows
  pub written : part.text.items ≡ text_of rows
  pub counted : part.records + 1 ≡ length rows

-- this is the fault that is said, and none of quotes; nothing is said of memory
abbrev pub IsFault : {A : Type 0} → Made A → PrepareFault → Type 0
IsFault said NoHeader = said ≡ Err NoHeader
IsFault said (NoColumn place) = said ≡ Err (NoColumn place)
IsFault said (TwoColumns place first second) = said ≡ Err (TwoColumns place first second)
IsFault said (Uneven number fields header) = said ≡ Err (Uneven number fields header)
IsFault said (Quotes fault line) = ⊥
IsFault said OutOfMemory = ⊤

-- ---- of a file

-- its quotes are right, where they are looked at
abbrev pub HasRightQuotes : Choice → List ℕ → Type 0
HasRightQuotes choice bytes = choice.lenient ≡ false → IsWellQuoted choice.delimiter (strip_bom bytes)

-- the part is made of the file, whose quotes are right
pub record IsPartOfFile (choice : Choice) (bytes : List ℕ) (part : MadePart) : Type 0 where
  pub quotes : HasRightQuotes choice bytes
  pub is : IsPart (part_of choice (records_of choice.delimiter bytes)) part

-- the fault is the first of its quotes, or they are right, and it is the first of its records
pub data IsFaultOfFile (choice : Choice) (bytes : List ℕ) (fault : PrepareFault) : Type 0 where
  quotes : {quote : QuoteFault} {line : ℕ} → fault ≡ Quotes quote line → choice.lenient ≡ false → IsMisquotedFile choice.delimiter bytes quote line → IsFaultOfFile choice bytes fault
  records : HasRightQuotes choice bytes → IsFault (part_of choice (records_of choice.delimiter bytes)) fault → IsFaultOfFile choice bytes fault
