-- The lines of standard input, as a session hears them.
use Rattle.std.specs.Prelude.{◌≡◌, ◌≢◌, ◌≤◌, ◌+◌, ℕ, Bool, true, false, List, [], ◌∷◌, ◌++◌, Option, Some, None, length, map, nat_le, take, if◌then◌else◌, OnSome, ⊤}
use Rattle.std.specs.Io.KnownBytes.{Consumes, IsAtEnd}
use Rattle.std.specs.List.{All}
use Rattle.std.specs.Str.Lines.{lines, strip_carriage_return}
use Rattle.script.specs.Limits.{script_limit}
use Rattle.olap.specs.declared.hearing.Met.{Met}
use Rattle.olap.specs.declared.hearing.Met.TheVariants.{InputEnd, LineEnd, More}

-- what is heard of a line: one byte more than a line may have, at most
abbrev pub heard : List ℕ → List ℕ
heard line = take (script_limit + 1) line

-- the lines of a text, as they are heard
abbrev pub lines_heard : List ℕ → List (List ℕ)
lines_heard text = map heard (lines text)

-- the first line of what is left was heard, or none is left
abbrev pub HearsNext : Option (List ℕ) → Bool → List ℕ → Option (List ℕ) → Type 0
HearsNext None some line new = ⊤
HearsNext (Some text) false line new = text ≡ []
HearsNext (Some text) true line None = ⊥
HearsNext (Some text) true line (Some rest) = lines_heard text ≡ line ∷ lines_heard rest

-- ---- pieces of a line

-- what is kept of a line until its end is met: a carriage return before it is not heard
abbrev pub kept : List ℕ → List ℕ
kept seen = take (script_limit + 2) seen

-- what is heard of a line of which this was kept
abbrev pub closed : List ℕ → List ℕ
closed line = if nat_le (length line) (script_limit + 1) then strip_carriage_return line else heard line

-- the bytes of what was met
abbrev pub bytes_of : Met → List ℕ
bytes_of More = []
bytes_of LineEnd = 10 ∷ []
bytes_of InputEnd = []

-- a piece of a line was taken, and then this was met
pub record TakesPiece (old new : Option (List ℕ)) (before after : List ℕ) (met : Met) : Type 0 where
  pub piece : List ℕ
  pub within : All (λ byte. byte ≢ 10) piece
  pub is_kept : after ≡ kept (before ++ piece)
  pub consumed : Consumes old new (piece ++ bytes_of met)
  pub ended : met ≡ InputEnd → OnSome old (IsAtEnd new)

-- so many bytes of what is at hand are a piece of a line, and so many are used up with what was met then
pub record IsCut (bytes : List ℕ) (piece used : ℕ) (met : Met) : Type 0 where
  pub most : used ≤ length bytes
  pub within : All (λ byte. byte ≢ 10) (take piece bytes)
  pub joined : take used bytes ≡ take piece bytes ++ bytes_of met
  pub ended : met ≡ InputEnd → bytes ≡ []
