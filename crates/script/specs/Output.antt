-- What a script writes. The lines before a line stand with the last one first.
use Rattle.std.specs.Prelude.{◌≡◌, ◌⊎◌, ◌<◌, ◌≤◌, ℕ, ◌+◌, Bool, true, false, List, [], ◌∷◌, ◌++◌, length, map, nat_lt, if◌then◌else◌, Option, Some, None, Result, Ok, Err}
use Rattle.std.specs.Str.Lines.{lines}
use Rattle.cells.specs.Updates.{Update, puts, rows}
use Rattle.cells.specs.Values.{RowValue, Table}
use Rattle.cells.specs.declared.cell.Cell.{Cell}
use Rattle.cells.specs.declared.refused.Refused.{Refused}
use Rattle.cells.specs.declared.refused.Refused.TheVariants.{Limit, TooManyRows}
use Rattle.forms.specs.declared.form.Form.{Form}
use Rattle.trie.specs.Shapes.{shape_of}
use Rattle.script.specs.Deeds.{Declares, Deed, Loads, Nothing, Publishes, Reports, Shapes, Updates, deed}
use Rattle.script.specs.ClassicSpelling.{newline}
use Rattle.script.specs.Givens.{Givens}
use Rattle.script.specs.Listings.{rows_loaded}
use Rattle.script.specs.Limits.{part_limit, script_limit}
use Rattle.script.specs.Says.{Answer, Says, spelt}
use Rattle.script.specs.Spelling.{opening, refusal, shape_text}
use Rattle.script.specs.declared.fault.Fault.{Fault}
use Rattle.script.specs.declared.fault.Fault.TheVariants.{Line}
use Rattle.script.specs.declared.manner.Manner.{Manner}

-- lines; of those before a line the last one first
abbrev pub Lines : Type 0
Lines = List (List ℕ)

-- the table of the accepted `table` line
abbrev pub declared_by : Option Table → Result Deed Fault → Option Table
declared_by earlier (Ok (Declares t)) = Some t
declared_by earlier (Ok Nothing) = earlier
declared_by earlier (Ok (Loads t listing)) = earlier
declared_by earlier (Ok (Updates more)) = earlier
declared_by earlier (Ok Publishes) = earlier
declared_by earlier (Ok (Reports t query)) = earlier
declared_by earlier (Ok Shapes) = earlier
declared_by earlier (Err fault) = earlier

-- the updates and then these would leave more rows than the limit
abbrev pub is_overfull : ℕ → List Update → List Update → Bool
is_overfull limit us more = nat_lt limit (length (rows (us ++ more)))

-- updates that leave no more rows than the limit, or none
abbrev pub within : ℕ → List Update → List Update → List Update
within limit us more = if is_overfull limit us more then [] else more

-- the puts of rows that a load puts
abbrev pub within_loaded : ℕ → List Update → Result (List RowValue) Fault → List Update
within_loaded limit us (Ok rs) = within limit us (puts rs)
within_loaded limit us (Err fault) = []

-- the updates that a line adds: none where it is refused
abbrev pub added : Givens → List Update → Result Deed Fault → List Update
added givens us (Ok (Updates more)) = within givens.limit us more
added givens us (Ok (Loads t listing)) = within_loaded givens.limit us (rows_loaded t givens.parts listing)
added givens us (Ok Nothing) = []
added givens us (Ok (Declares t)) = []
added givens us (Ok Publishes) = []
added givens us (Ok (Reports t query)) = []
added givens us (Ok Shapes) = []
added givens us (Err fault) = []

abbrev pub is_publish : Result Deed Fault → Bool
is_publish (Ok Publishes) = true
is_publish (Ok Nothing) = false
is_publish (Ok (Declares t)) = false
is_publish (Ok (Loads t listing)) = false
is_publish (Ok (Updates more)) = false
is_publish (Ok (Reports t query)) = false
is_publish (Ok Shapes) = false
is_publish (Err fault) = false

module _ (givens : Givens) where
  abbrev pub declared : Lines → Option Table
  declared [] = None
  declared (line ∷ before) = declared_by (declared before) (deed (declared before) line)

  -- what a line does behind those before
  abbrev pub deed_behind : Lines → List ℕ → Result Deed Fault
  deed_behind before line = deed (declared before) line

  -- the updates of the accepted lines, one after another
  abbrev pub updates : Lines → List Update
  updates [] = []
  updates (line ∷ before) = updates before ++ added givens (updates before) (deed_behind before line)

  -- the number of the last published edition: how many accepted `publish` lines there are
  abbrev pub edition : Lines → ℕ
  edition [] = 0
  edition (line ∷ before) = if is_publish (deed_behind before line) then edition before + 1 else edition before

  -- its rows: those of the updates before the last accepted `publish` line, and none where there is no such line
  abbrev pub published : Lines → List RowValue
  published [] = []
  published (line ∷ before) = if is_publish (deed_behind before line) then rows (updates before) else published before

  -- the rows of all editions, in order: of edition 0 none, and of each other one those of the updates before its accepted
  -- `publish` line
  abbrev pub editions : Lines → List (List RowValue)
  editions [] = [] ∷ []
  editions (line ∷ before) = if is_publish (deed_behind before line) then editions before ++ rows (updates before) ∷ [] else editions before

-- lines, each ended by a newline
abbrev pub text_of : Lines → List ℕ
text_of [] = []
text_of (line ∷ more) = line ++ (newline ++ text_of more)

-- the block of updates, which is a refusal where they would leave too many rows
abbrev pub updated : Form → ℕ → ℕ → List Update → List Update → List ℕ
updated form number limit us more = if is_overfull limit us more then refusal form number (Line TooManyRows) else []

-- the block of a load, by the rows that it puts or its first fault
abbrev pub loaded : Form → ℕ → ℕ → List Update → Result (List RowValue) Fault → List ℕ
loaded form number limit us (Ok rs) = updated form number limit us (puts rs)
loaded form number limit us (Err fault) = refusal form number fault

-- the block of a report: its opening and its answer, or its refusal
abbrev pub report : Manner → ℕ → ℕ → Result Answer Refused → List ℕ
report manner number edition (Ok told) = opening manner number edition ++ spelt manner told
report manner number edition (Err fault) = refusal manner.form number (Line fault)

-- the bytes are the block of a report: what its text says over these rows
pub record IsReport (manner : Manner) (number edition : ℕ) (t : Table) (rs : List RowValue) (query bytes : List ℕ) : Type 0 where
  pub said : Result Answer Refused
  pub says : Says t rs query said
  pub is : bytes ≡ report manner number edition said

abbrev pub keys : List RowValue → List Cell
keys rs = map (λ r. r.key) rs

-- the hash of keys decides the blocks of shapes, and nothing else
module _ (hash : Cell → ℕ) (givens : Givens) where
  -- the bytes are the block of a line that does this
  abbrev pub IsAnswer : Lines → Result Deed Fault → List ℕ → Type 0
  IsAnswer before (Ok Nothing) bytes = bytes ≡ []
  IsAnswer before (Ok (Declares t)) bytes = bytes ≡ []
  IsAnswer before (Ok (Loads t listing)) bytes = bytes ≡ loaded givens.manner.form (length before + 1) givens.limit (updates givens before) (rows_loaded t givens.parts listing)
  IsAnswer before (Ok (Updates more)) bytes = bytes ≡ updated givens.manner.form (length before + 1) givens.limit (updates givens before) more
  IsAnswer before (Ok Publishes) bytes = bytes ≡ []
  IsAnswer before (Ok (Reports t query)) bytes = IsReport givens.manner (length before + 1) (edition givens before) t (published givens before) query bytes
  IsAnswer before (Ok Shapes) bytes = bytes ≡ shape_text givens.manner (length before + 1) (edition givens before) (shape_of hash (keys (published givens before)))
  IsAnswer before (Err fault) bytes = bytes ≡ refusal givens.manner.form (length before + 1) fault

  -- the bytes are the line's block
  abbrev pub IsBlock : Lines → List ℕ → List ℕ → Type 0
  IsBlock before line bytes = IsAnswer before (deed_behind givens before line) bytes

-- the bytes are the blocks of the lines that follow those before, one after another
pub data AreBlocks (hash : Cell → ℕ) (givens : Givens) : List (List ℕ) → List (List ℕ) → List ℕ → Type 0 where
  no_line : {before : List (List ℕ)} → AreBlocks hash givens before [] []
  line_first : {before later : List (List ℕ)} {line : List ℕ} (bytes rest : List ℕ) →
      IsBlock hash givens before line bytes → AreBlocks hash givens (line ∷ before) later rest →
      AreBlocks hash givens before (line ∷ later) (bytes ++ rest)

-- there are too many bytes of a script, or too many parts
abbrev pub IsTooMuch : Givens → List ℕ → Type 0
IsTooMuch givens script = (script_limit < length script) ⊎ (part_limit < length givens.parts)

-- the bytes are what a script writes
pub data IsOutput (hash : Cell → ℕ) (givens : Givens) (script : List ℕ) : List ℕ → Type 0 where
  too_much : IsTooMuch givens script → IsOutput hash givens script (refusal givens.manner.form 0 (Line Limit))
  of_lines : {bytes : List ℕ} → length script ≤ script_limit → length givens.parts ≤ part_limit →
      AreBlocks hash givens [] (lines script) bytes → IsOutput hash givens script bytes

-- the bytes are three parts, one after another
pub record InThree (First Second Third : List ℕ → Type 0) (bytes : List ℕ) : Type 0 where
  pub first : List ℕ
  pub second : List ℕ
  pub third : List ℕ
  pub is_first : First first
  pub is_second : Second second
  pub is_third : Third third
  pub joined : bytes ≡ first ++ (second ++ third)

-- the bytes are two parts, one after the other
pub record InTwo (First Second : List ℕ → Type 0) (bytes : List ℕ) : Type 0 where
  pub first : List ℕ
  pub second : List ℕ
  pub is_first : First first
  pub is_second : Second second
  pub joined : bytes ≡ first ++ second
