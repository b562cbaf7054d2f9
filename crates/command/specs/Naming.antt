-- Parts that have names, and a script that lists them by these. The list of names has one for each part, or None.
use Rattle.std.specs.Prelude.{◌≡◌, ◌==◌, ◌+◌, ◌&&◌, Bool, ℕ, List, [], ◌∷◌, ◌++◌, ⊤, Option, Some, None, bytes_eq, codes, drop, false, length, map, option_and_then, option_map, string_bytes, take, if◌then◌else◌}
use Rattle.std.specs.Fmt.{decimal}
use Rattle.std.specs.List.{join_with_byte, list_all, list_any, position, slice_split}
use Rattle.std.specs.Option.{option_map_or}
use Rattle.std.specs.Str.Lines.{strip_carriage_return}
use Rattle.cells.specs.Spelling.{is_in_word, is_letter}
use Rattle.command.specs.declared.naming.NamingFault.{NamingFault}
use Rattle.command.specs.declared.naming.NamingFault.TheVariants.{NoName, NameAgain, OutOfMemory}
use Rattle.command.specs.declared.naming.Parts.{Parts}

abbrev Text : Type 0
Text = List ℕ

-- a letter or `_`, and then letters, digits and `_`
abbrev pub is_name : Text → Bool
is_name [] = false
is_name (b ∷ bs) = is_letter b && list_all is_in_word bs

-- the name and the file of `NAME=FILE`
abbrev pub part_named : Text → Option (Text × Text)
part_named word = option_and_then (λ at. if is_name (take at word) then Some (take at word, drop (at + 1) word) else None) (position (λ b. b == 61) word)

abbrev pub has_name : Text → Option Text → Bool
has_name word None = false
has_name word (Some name) = bytes_eq name word

-- the number of the part of this name; parts are numbered from 1
abbrev pub number_named : List (Option Text) → Text → Option ℕ
number_named names word = option_map (λ place. place + 1) (position (has_name word) names)

-- a word, or the number of the part whose name it is
abbrev pub resolved_word : List (Option Text) → Text → Text
resolved_word names word = option_map_or decimal (number_named names word) word

-- words with one space between neighbours
abbrev pub resolved_words : List (Option Text) → Text → Text
resolved_words names text = join_with_byte 32 (map (resolved_word names) (slice_split (λ b. b == 32) text))

-- a listing, at whose end a carriage return may stand
abbrev pub resolved_listing : List (Option Text) → Text → Text
resolved_listing names listing = resolved_words names (strip_carriage_return listing) ++ drop (length (strip_carriage_return listing)) listing

-- what follows `load ` in a line that begins so
abbrev pub listing_in : Text → Option Text
listing_in line = if bytes_eq (take 5 line) (codes "load ") then Some (drop 5 line) else None

abbrev pub resolved_line : List (Option Text) → Text → Text
resolved_line names line = option_map_or (λ listing. codes "load " ++ resolved_listing names listing) (listing_in line) line

-- the script in which numbers stand for the names of parts that its `load` lines list
abbrev pub resolved : List (Option Text) → Text → Text
resolved names script = join_with_byte 10 (map (resolved_line names) (slice_split (λ b. b == 10) script))

-- no two parts have one name
abbrev pub AreDifferent : List (Option Text) → Type 0
AreDifferent [] = ⊤
AreDifferent (None ∷ names) = AreDifferent names
AreDifferent (Some name ∷ names) = (list_any (has_name name) names ≡ false) × AreDifferent names

-- the files of parts that are not named, and then those that words name, with their names
pub record AreNamed (unnamed words files : List Text) (names : List (Option Text)) : Type 0 where
  pub pairs : List (Text × Text)
  pub each : map part_named words ≡ map Some pairs
  pub files_are : files ≡ unnamed ++ map (λ p. p.1) pairs
  pub names_are : names ≡ map (λ file. None) unnamed ++ map (λ p. Some p.0) pairs
  pub different : AreDifferent names

-- one more part, which a word names
pub record TakesPart (old new : Parts) (word : Text) : Type 0 where
  pub pair : Text × Text
  pub is : part_named word ≡ Some pair
  pub files : new.files.items ≡ old.files.items ++ pair.1 ∷ []
  pub names : new.names.items ≡ old.names.items ++ Some pair.0 ∷ []
  pub fresh : list_any (has_name pair.0) old.names.items ≡ false

-- why words name no parts
abbrev pub ExplainsNaming : NamingFault → Type 0
ExplainsNaming (NoName word) = part_named (string_bytes word) ≡ None
ExplainsNaming (NameAgain name) = ⊤
ExplainsNaming OutOfMemory = ⊤
