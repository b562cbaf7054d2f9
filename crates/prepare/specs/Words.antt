-- Names of a header as words of a table (ISO/IEC 9075-2:1999, 5.2: a name is a letter and then letters, digits and `_`).
use Rattle.std.specs.Prelude.{Bool, ℕ, List, [], ◌∷◌, ◌++◌, ◌&&◌, Option, Some, None, bytes_eq, codes, false, map, if◌then◌else◌}
use Rattle.std.specs.Char.{to_ascii_uppercase}
use Rattle.std.specs.Str.{is_utf8}
use Rattle.cells.specs.Schemas.{is_reserved}
use Rattle.cells.specs.Spelling.{is_in_word, is_letter}

-- a letter in upper case, a digit, and `_` for any other byte
abbrev pub word_byte : ℕ → ℕ
word_byte b = if is_in_word b then to_ascii_uppercase b else 95

-- a word begins with a letter or with `_`
abbrev pub begins_word : List ℕ → Bool
begins_word [] = false
begins_word (b ∷ bs) = is_letter b

abbrev pub begun : List ℕ → List ℕ
begun bytes = if begins_word bytes then bytes else 95 ∷ bytes

abbrev pub is_taken : List ℕ → Bool
is_taken word = is_utf8 word && is_reserved word

-- a word of the language's own is no name, and gets a `_` after it
abbrev pub apart : List ℕ → List ℕ
apart word = if is_taken word then word ++ codes "_" else word

-- the word that a name makes
abbrev pub word_of : List ℕ → List ℕ
word_of name = apart (begun (map word_byte name))

-- two names are one, in whatever case
abbrev pub is_same_name : List ℕ → List ℕ → Bool
is_same_name first second = bytes_eq (map to_ascii_uppercase first) (map to_ascii_uppercase second)

-- a name is the word that it makes, in whatever case
abbrev pub name_of : List ℕ → Option (List ℕ)
name_of text = if is_same_name (word_of text) text then Some (word_of text) else None
