-- What reasons are found in: a script and its parts.
use Rattle.std.specs.Prelude.{◌==◌, ℕ, zero, suc, List, [], ◌∷◌, Option, Some, None, bytes_eq, codes, length, nat_lt, if◌then◌else◌}
use Rattle.std.specs.List.{after_first, before_first, slice_split}
use Rattle.std.specs.Str.{is_utf8}
use Rattle.std.specs.Str.Lines.{strip_carriage_return}
use Rattle.cells.specs.Reading.{schema_of}
use Rattle.cells.specs.Values.{Table}

-- the lines, each with the carriage return at its end, the declared table, and the parts
pub record Book : Type 0 where
  pub lines : List (List ℕ)
  pub table : Option Table
  pub parts : List (List ℕ)

-- the most bytes of a script that has lines
abbrev pub script_limit : ℕ
script_limit = 1048576

-- what stands between the line feeds of a text
abbrev pub between_ends : List ℕ → List (List ℕ)
between_ends = slice_split (λ b. b == 10)

abbrev pub lines_in : List ℕ → List (List ℕ)
lines_in script = if nat_lt script_limit (length script) then [] else between_ends script

-- the schema that a command word and its rest declare
abbrev pub schema_after : List ℕ → List ℕ → Option Table
schema_after word rest = if bytes_eq word (codes "table") then schema_of rest else None

-- the schema that a line in UTF-8 declares
abbrev pub schema_in_text : List ℕ → Option Table
schema_in_text text = schema_after (before_first (λ b. b == 32) text) (after_first (λ b. b == 32) text)

abbrev pub schema_said : List ℕ → Option Table
schema_said line = if is_utf8 line then schema_in_text line else None

abbrev pub or_later : Option Table → Option Table → Option Table
or_later None later = later
or_later (Some t) later = Some t

-- the schema of the first line that declares one
abbrev pub declared_in : List (List ℕ) → Option Table
declared_in [] = None
declared_in (line ∷ later) = or_later (schema_said line) (declared_in later)

-- a line before these: without the carriage return before its line feed, which the last line has not
abbrev pub line_before : List (List ℕ) → List ℕ → List ℕ
line_before [] line = line
line_before (next ∷ later) line = strip_carriage_return line

-- the line at a place, counted from 0
abbrev pub line_at : List (List ℕ) → ℕ → List ℕ
line_at [] place = []
line_at (line ∷ later) zero = line_before later line
line_at (line ∷ later) (suc place) = line_at later place

-- the line of a number, counted from 1; one that is not there is empty
abbrev pub line_numbered : List (List ℕ) → ℕ → List ℕ
line_numbered lines zero = []
line_numbered lines (suc place) = line_at lines place
