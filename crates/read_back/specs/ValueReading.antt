-- Values that a line can say.
use Rattle.std.specs.Prelude.{◌<◌, ◌≤◌, FitsSigned, List, ℕ, length, ⊤}
use Rattle.std.specs.Int.{w64}
use Rattle.std.specs.Str.{IsUtf8}
use Rattle.cells.specs.Limits.{text_limit}
use Rattle.cells.specs.declared.cell.Cell.{Cell}
use Rattle.cells.specs.declared.cell.Cell.TheVariants.{Int, Null, Text}

-- a text of 1 to 1,024 bytes of UTF-8; an empty one is read as NULL
pub record IsText (text : List ℕ) : Type 0 where
  pub some : 0 < length text
  pub few : length text ≤ text_limit
  pub utf8 : IsUtf8 text

-- NULL, an integer of 64 bits, or such a text
abbrev pub IsSayable : Cell → Type 0
IsSayable Null = ⊤
IsSayable (Int n) = FitsSigned w64 n
IsSayable (Text text) = IsText text
