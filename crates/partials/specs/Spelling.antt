-- What partial results tell, as values of JSON (RFC 8259).
use Rattle.std.specs.Prelude.{◌≡◌, ◌==◌, ℕ, ℤ, List, [], ◌∷◌, FitsSigned, Option, None, Some, codes, if◌then◌else◌}
use Rattle.std.specs.Fmt.{signed_decimal}
use Rattle.std.specs.Int.{w64, w128}
use Rattle.std.specs.List.{AllZip}
use Rattle.std.specs.Option.{option_to_list}
use Rattle.serde_json.specs.Data.{Data, array, null, number, string, unsigned}
use Rattle.serde_json.specs.Find.{of_integer}
use Rattle.serde_json.specs.View.{items_of}
use Rattle.aggs.specs.declared.kept.Kept.{Kept}
use Rattle.aggs.specs.declared.kept.Kept.TheVariants.{Count, Different, Extreme, Sum}
use Rattle.cells.specs.declared.cell.Cell.{Cell}
use Rattle.cells.specs.declared.cell.Cell.TheVariants.{Int, Null, Text}
use Rattle.groups.specs.Told.{GroupValue}

-- an array of what these spell, in their order
pub record SpellsList {X : Type 0} (Spells : X → Data → Type 0) (xs : List X) (d : Data) : Type 0 where
  pub items : List Data
  pub is : d ≡ array (items_of items)
  pub each : AllZip Spells xs items

-- an array of two
pub record SpellsPair (First Second : Data → Type 0) (d : Data) : Type 0 where
  pub first : Data
  pub second : Data
  pub is : d ≡ array (items_of (first ∷ second ∷ []))
  pub is_first : First first
  pub is_second : Second second

-- NULL, an integer as a number, a text as a string
abbrev pub SpellsCell : Cell → Data → Type 0
SpellsCell Null d = d ≡ null
SpellsCell (Int n) d = (d ≡ number (of_integer n)) × FitsSigned w64 n
SpellsCell (Text t) d = d ≡ string t

-- a count as a number
abbrev pub SpellsCount : ℕ → Data → Type 0
SpellsCount n d = d ≡ number (unsigned n)

-- a sum as a string of its digits, since readers of JSON seldom have numbers of more than 64 bits
abbrev pub SpellsSum : ℤ → Data → Type 0
SpellsSum sum d = (d ≡ string (signed_decimal sum)) × FitsSigned w128 sum

-- what stands behind a minus
abbrev pub behind_minus : List ℕ → Option (List ℕ)
behind_minus [] = None
behind_minus (b ∷ bs) = if b == 45 then Some bs else None

-- the word that tells what is kept
abbrev pub word_of : Kept → List ℕ
word_of (Count n) = codes "count"
word_of (Different cells) = codes "different"
word_of (Sum sum integers) = codes "sum"
word_of (Extreme cell) = codes "extreme"

-- what stands behind the word: a count; the different cells; a sum, and of how many integers; a cell, or none
abbrev pub SpellsKeptBehind : Kept → Data → Type 0
SpellsKeptBehind (Count n) d = SpellsCount n d
SpellsKeptBehind (Different cells) d = SpellsList SpellsCell cells d
SpellsKeptBehind (Sum sum integers) d = SpellsPair (SpellsSum sum) (SpellsCount integers) d
SpellsKeptBehind (Extreme cell) d = SpellsList SpellsCell (option_to_list cell) d

-- what is kept of a group's cells: the word, and what stands behind it
abbrev pub SpellsKept : Kept → Data → Type 0
SpellsKept kept d = SpellsPair (λ word. word ≡ string (word_of kept)) (SpellsKeptBehind kept) d

-- a group: the cells of its tuple, and what is kept of its rows
abbrev pub SpellsGroup : GroupValue → Data → Type 0
SpellsGroup g d = SpellsPair (SpellsList SpellsCell g.tuple) (SpellsList SpellsKept g.kept) d

-- the groups of a grouping set
abbrev pub SpellsSet : List GroupValue → Data → Type 0
SpellsSet groups d = SpellsList SpellsGroup groups d

-- those of each set
abbrev pub SpellsSets : List (List GroupValue) → Data → Type 0
SpellsSets sets d = SpellsList SpellsSet sets d
