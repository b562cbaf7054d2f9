-- Partial answers as values of JSON (RFC 8259), and as texts.
use Rattle.std.specs.Prelude.{◌≡◌, ℕ, List, [], ◌∷◌, Option, None, Some, Result, Ok, Err, bytes_eq, codes, IsUtf8}
use Rattle.std.specs.List.{find}
use Rattle.serde_json.specs.Data.{Data, no_members, null, object, put, string}
use Rattle.serde_json.specs.Read.{read}
use Rattle.cells.specs.Refusals.{number_of}
use Rattle.groups.specs.Told.{GroupValue}
use Rattle.partials.specs.Spelling.{SpellsCount, SpellsList, SpellsPair, SpellsSets}
use Rattle.script.specs.declared.fault.Fault.{Fault}
use Rattle.script.specs.declared.fault.Fault.TheVariants.{Line, Part}
use Rattle.script.specs.declared.told.Told.{Told}
use Rattle.script.specs.declared.told.Told.TheVariants.{Kept, Nothing, Refused}
use Rattle.shards.specs.Frames.{framed}
use Rattle.shards.specs.declared.division.Division.{Division}
use Rattle.shards.specs.declared.division.Division.TheVariants.{Keys, Parts}

-- a word, and what stands behind it
abbrev pub SpellsBehind : List ℕ → (Data → Type 0) → Data → Type 0
SpellsBehind word Spells d = SpellsPair (λ first. first ≡ string word) Spells d

-- why a load is refused: by a rule, or by the faulty record of a part
abbrev pub SpellsFault : Fault → Data → Type 0
SpellsFault (Line rule) d = SpellsBehind (codes "line") (SpellsCount (number_of rule)) d
SpellsFault (Part part entry) d = SpellsBehind (codes "part") (SpellsPair (SpellsCount part) (SpellsCount entry)) d

-- what is told of a line: nothing, why a load is refused, or what is kept of a report's rows
abbrev pub LineValue : Type 0
LineValue = Option (Result (List (List GroupValue)) Fault)

abbrev pub line_value : Told → LineValue
line_value Nothing = None
line_value (Refused fault) = Some (Err fault)
line_value (Kept sets) = Some (Ok sets.items)

abbrev pub SpellsLine : LineValue → Data → Type 0
SpellsLine None d = d ≡ null
SpellsLine (Some (Err fault)) d = SpellsBehind (codes "refused") (SpellsFault fault) d
SpellsLine (Some (Ok sets)) d = SpellsBehind (codes "kept") (SpellsSets sets) d

-- the word that names how a table is divided into shards
abbrev pub division_word : Division → List ℕ
division_word Keys = codes "keys"
division_word Parts = codes "parts"

-- the division that a word names
abbrev pub division_of : List ℕ → Option Division
division_of word = find (λ division. bytes_eq word (division_word division)) (Keys ∷ Parts ∷ [])

-- a partial answer: the script, how its table is divided and into how many shards, the numbers of those that told, and what they tell of each of its lines
pub record DocumentValue : Type 0 where
  pub script : List ℕ
  pub division : Division
  pub count : ℕ
  pub numbers : List ℕ
  pub lines : List LineValue

-- an object with these members
pub record SpellsDocument (it : DocumentValue) (d : Data) : Type 0 where
  pub dividing : Data
  pub shards : Data
  pub told : Data
  pub is : d ≡ object (put (codes "told") told (put (codes "shards") shards (put (codes "script") (string it.script) (put (codes "of") dividing no_members))))
  pub is_dividing : SpellsBehind (division_word it.division) (SpellsCount it.count) dividing
  pub is_shards : SpellsList SpellsCount it.numbers shards
  pub is_told : SpellsList SpellsLine it.lines told

-- the text is that of the partial answer: the line before it, and the object
pub record IsTextOf (it : DocumentValue) (text : List ℕ) : Type 0 where
  pub body : List ℕ
  pub value : Data
  pub is : text ≡ framed body
  pub utf8 : IsUtf8 body
  pub reads : read body ≡ Some value
  pub spells : SpellsDocument it value
