-- The token at the front of a text, as a function: what the private readers answer. Past the end stands a 0, which is in no class.
use Rattle.std.specs.Prelude.{ℕ, ◌+◌, Bool, ◌||◌, ◌==◌, nat_le, List, [], ◌∷◌, ◌++◌, map, length, ℤ, if◌then◌else◌, drop, slice_index, Option, Some, None}
use Rattle.std.specs.Char.{is_ascii_digit, to_ascii_uppercase}
use Rattle.std.specs.List.{prefix_len}
use Rattle.std.specs.Str.Parse.{starts_with_minus}
use Rattle.cells.specs.declared.token.Token.{Token}
use Rattle.cells.specs.declared.token.Token.TheVariants.{Word, Number, Quoted, Mark}
use Rattle.cells.specs.declared.token.Mark.{Mark as Sign}
use Rattle.cells.specs.declared.token.Mark.TheVariants.{LeftParen, RightParen, Comma, Asterisk, Equals, NotEquals, LessThanOrEquals, GreaterThanOrEquals, LessThan, GreaterThan}
use Rattle.cells.specs.declared.scan.Class.{Class}
use Rattle.cells.specs.declared.scan.Class.TheVariants.{Blank, Letter, InWord, Digit}
use Rattle.cells.specs.Integers.{integer_of}
use Rattle.cells.specs.Limits.{text_limit}
use Rattle.cells.specs.Spelling.{is_blank, is_letter, is_in_word, run, past}

abbrev pub class_test : Class → ℕ → Bool
class_test Blank = is_blank
class_test Letter = is_letter
class_test InWord = is_in_word
class_test Digit = is_ascii_digit

unfoldable pub word_at : List ℕ → Option (Token × List ℕ)
word_at text = Some (Word (map to_ascii_uppercase (run is_in_word text)), past is_in_word text)

-- how many bytes are an optional minus and the digits behind it
abbrev pub number_len : List ℕ → ℕ
number_len text = if starts_with_minus text then 1 + prefix_len is_ascii_digit (drop 1 text) else prefix_len is_ascii_digit text

-- an optional minus and the digits behind it, and what follows them
abbrev pub number_form : List ℕ → List ℕ
number_form text = if starts_with_minus text then 45 ∷ run is_ascii_digit (drop 1 text) else run is_ascii_digit text

abbrev pub number_rest : List ℕ → List ℕ
number_rest text = if starts_with_minus text then past is_ascii_digit (drop 1 text) else past is_ascii_digit text

abbrev pub number_before : List ℕ → Option ℤ → Option (Token × List ℕ)
number_before rest None = None
number_before rest (Some n) = Some (Number n, rest)

-- the number at the front, which nothing touches
unfoldable pub number_at : List ℕ → Option (Token × List ℕ)
number_at text = if is_in_word (slice_index (number_rest text) 0) then None else number_before (number_rest text) (integer_of (number_form text))

abbrev pub after : List ℕ → Option (List ℕ × List ℕ) → Option (List ℕ × List ℕ)
after front None = None
after front (Some x) = Some (front ++ x.0, x.1)

-- a quoted text behind its first quote, of any length, and what follows it
abbrev pub unquoted : List ℕ → Option (List ℕ × List ℕ)
unquoted [] = None
unquoted (b ∷ []) = if b == 39 then Some ([], []) else None
unquoted (b ∷ c ∷ bs) =
    if b == 39 then (if c == 39 then after (39 ∷ []) (unquoted bs) else Some ([], c ∷ bs)) else after (b ∷ []) (unquoted (c ∷ bs))

abbrev pub bounded : Option (List ℕ × List ℕ) → Option (Token × List ℕ)
bounded None = None
bounded (Some x) = if nat_le (length x.0) text_limit then Some (Quoted x.0, x.1) else None

unfoldable pub quoted_at : List ℕ → Option (Token × List ℕ)
quoted_at text = bounded (unquoted text)

-- the sign that begins with these two bytes, and its length
abbrev pub mark_of : ℕ → ℕ → Option (Sign × ℕ)
mark_of a b =
    if a == 40 then Some (LeftParen, 1)
    else (if a == 41 then Some (RightParen, 1)
    else (if a == 44 then Some (Comma, 1)
    else (if a == 42 then Some (Asterisk, 1)
    else (if a == 61 then Some (Equals, 1)
    else (if a == 60 then (if b == 62 then Some (NotEquals, 2) else (if b == 61 then Some (LessThanOrEquals, 2) else Some (LessThan, 1)))
    else (if a == 62 then (if b == 61 then Some (GreaterThanOrEquals, 2) else Some (GreaterThan, 1))
    else None))))))

abbrev pub mark_before : List ℕ → Option (Sign × ℕ) → Option (Token × List ℕ)
mark_before text None = None
mark_before text (Some x) = Some (Mark x.0, drop x.1 text)

unfoldable pub mark_at : List ℕ → Option (Token × List ℕ)
mark_at text = mark_before text (mark_of (slice_index text 0) (slice_index text 1))

unfoldable pub token_at : List ℕ → Option (Token × List ℕ)
token_at text =
    if is_letter (slice_index text 0) then word_at text
    else (if is_ascii_digit (slice_index text 0) || slice_index text 0 == 45 then number_at text
    else (if slice_index text 0 == 39 then quoted_at (drop 1 text)
    else mark_at text))
