-- Quotes as RFC 4180, section 2, has them: a field has none, or stands between two and has each of its own twice.
use Rattle.std.specs.Prelude.{◌≡◌, ◌<◌, ◌==◌, ◌||◌, ◌+◌, ◌⊎◌, ℕ, List, [], ◌∷◌, ◌++◌, Result, Ok, Err, count_by, length, take, if◌then◌else◌}
use Rattle.std.specs.List.{AllByRecursion}
use Rattle.csv.specs.Machine.{carriage_return, line_feed}
use Rattle.csv.specs.Reading.{strip_bom}
use Rattle.csv.specs.Writing.{quote_mark}
use Rattle.prepare.specs.declared.quotes.Kind.{Kind}
use Rattle.prepare.specs.declared.quotes.Kind.TheVariants as kind
use Rattle.prepare.specs.declared.quotes.QuoteFault.{QuoteFault}
use Rattle.prepare.specs.declared.quotes.QuoteFault.TheVariants as fault
use Rattle.prepare.specs.declared.quotes.Standing.{Standing}
use Rattle.prepare.specs.declared.quotes.Standing.TheVariants as at

-- a quote, the end of a field (the delimiter, or the end of a line), or any other byte
abbrev pub kind_of : ℕ → ℕ → Kind
kind_of delimiter byte = if byte == quote_mark then kind.Quote
    else if (byte == delimiter) || ((byte == line_feed) || (byte == carriage_return)) then kind.End else kind.Other

-- ---- fields

-- each quote twice
abbrev pub doubled : List ℕ → List ℕ
doubled [] = []
doubled (byte ∷ bytes) = (if byte == quote_mark then quote_mark ∷ quote_mark ∷ [] else byte ∷ []) ++ doubled bytes

abbrev pub in_quotes : List ℕ → List ℕ
in_quotes text = quote_mark ∷ doubled text ++ quote_mark ∷ []

-- no quote, and nothing that ends a field
abbrev pub IsBare : ℕ → List ℕ → Type 0
IsBare delimiter field = AllByRecursion (λ byte. kind_of delimiter byte ≡ kind.Other) field

abbrev pub IsField : ℕ → List ℕ → Type 0
IsField delimiter field = IsBare delimiter field ⊎ ((text : List ℕ) × (field ≡ in_quotes text))

-- a field, and the byte that ends it
pub record Ended : Type 0 where
  pub field : List ℕ
  pub end : ℕ

abbrev pub joined : List Ended → List ℕ
joined [] = []
joined (e ∷ later) = (e.field ++ e.end ∷ []) ++ joined later

abbrev pub IsEnded : ℕ → Ended → Type 0
IsEnded delimiter e = IsField delimiter e.field × (kind_of delimiter e.end ≡ kind.End)

-- the text is fields, each of which is ended
pub record AreFields (delimiter : ℕ) (text : List ℕ) : Type 0 where
  pub fields : List Ended
  pub is : text ≡ joined fields
  pub each : AllByRecursion (IsEnded delimiter) fields

-- ---- texts

-- fields that are ended, and a last one
pub record IsWellQuoted (delimiter : ℕ) (text : List ℕ) : Type 0 where
  pub front : List ℕ
  pub last : List ℕ
  pub is : text ≡ front ++ last
  pub fields : AreFields delimiter front
  pub field : IsField delimiter last

-- fields, and then a quote that nothing closes; so many bytes stand before it
pub record IsOpen (delimiter : ℕ) (text : List ℕ) (place : ℕ) : Type 0 where
  pub front : List ℕ
  pub inside : List ℕ
  pub is : text ≡ front ++ (quote_mark ∷ doubled inside)
  pub fields : AreFields delimiter front
  pub before : place ≡ length front

-- fields, one in quotes, and then a byte that neither ends a field nor is a quote
pub record IsFollowed (delimiter : ℕ) (text : List ℕ) (place : ℕ) : Type 0 where
  pub front : List ℕ
  pub inside : List ℕ
  pub byte : ℕ
  pub later : List ℕ
  pub is : text ≡ (front ++ in_quotes inside) ++ byte ∷ later
  pub fields : AreFields delimiter front
  pub other : kind_of delimiter byte ≡ kind.Other
  pub before : place ≡ length (front ++ in_quotes inside)

-- fields, some bytes of one without quotes, and then a quote
pub record IsStray (delimiter : ℕ) (text : List ℕ) (place : ℕ) : Type 0 where
  pub front : List ℕ
  pub field : List ℕ
  pub later : List ℕ
  pub is : text ≡ (front ++ field) ++ quote_mark ∷ later
  pub fields : AreFields delimiter front
  pub bare : IsBare delimiter field
  pub some : 0 < length field
  pub before : place ≡ length (front ++ field)

-- the first fault of a text's quotes, with the number of bytes before it
abbrev pub IsMisquoted : ℕ → List ℕ → QuoteFault → ℕ → Type 0
IsMisquoted delimiter text fault.Open place = IsOpen delimiter text place
IsMisquoted delimiter text fault.Followed place = IsFollowed delimiter text place
IsMisquoted delimiter text fault.Stray place = IsStray delimiter text place

-- the line of the byte after these
abbrev pub line_after : List ℕ → ℕ
line_after bytes = count_by (λ byte. byte == line_feed) bytes + 1

-- the same of a file, by the line; a byte order mark at its start is passed over
pub record IsMisquotedFile (delimiter : ℕ) (bytes : List ℕ) (fault : QuoteFault) (line : ℕ) : Type 0 where
  pub place : ℕ
  pub is : IsMisquoted delimiter (strip_bom bytes) fault place
  pub on : line ≡ line_after (take place (strip_bom bytes))

-- ---- a step of a reader

-- where it stands after one byte more, before which there are so many
abbrev pub step : Standing → Kind → ℕ → Result Standing QuoteFault
step at.Start kind.Quote place = Ok (at.Quoted place)
step at.Start kind.End place = Ok at.Start
step at.Start kind.Other place = Ok at.Bare
step at.Bare kind.Quote place = Err fault.Stray
step at.Bare kind.End place = Ok at.Start
step at.Bare kind.Other place = Ok at.Bare
step (at.Quoted opened) kind.Quote place = Ok (at.Closed opened)
step (at.Quoted opened) kind.End place = Ok (at.Quoted opened)
step (at.Quoted opened) kind.Other place = Ok (at.Quoted opened)
step (at.Closed opened) kind.Quote place = Ok (at.Quoted opened)
step (at.Closed opened) kind.End place = Ok at.Start
step (at.Closed opened) kind.Other place = Err fault.Followed
