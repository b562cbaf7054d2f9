-- What a run over a shard has done of the lines that it has gone over: how far its ledger is the shard's part of the table, and
-- what ends it early.
use Rattle.std.specs.Prelude.{◌≡◌, ⊤, ◌⊎◌, ◌+◌, ◌<◌, ◌≤◌, Bool, ℕ, List, [], ◌∷◌, ◌++◌, filter, length, reverse, Option, Some, None, Result, Ok, Err}
use Rattle.std.specs.Str.Lines.{lines}
use Rattle.std.specs.FinMap as map
use Rattle.cells.specs.Tables.{Rows, table}
use Rattle.cells.specs.Updates.{AreLeft, Update, key_of, puts, rows}
use Rattle.cells.specs.Values.{RowValue}
use Rattle.cells.specs.declared.cell.Cell.{Cell}
use Rattle.board.specs.Editions.{Edition, Editions}
use Rattle.board.specs.Editions as keeper
use Rattle.loader.specs.Shards.{taken}
use Rattle.script.specs.Deeds.{Declares, Deed, Loads, Nothing, Publishes, Reports, Shapes, Updates, deed}
use Rattle.script.specs.Desks.{schema_of_desk}
use Rattle.script.specs.Givens.{Givens}
use Rattle.script.specs.Limits.{part_limit, script_limit}
use Rattle.script.specs.Listings.{rows_loaded}
use Rattle.script.specs.Output.{declared, deed_behind, published, updates}
use Rattle.script.specs.Told.{Fits, IsTold, IsToldReport}
use Rattle.script.specs.declared.fault.Fault.{Fault}
use Rattle.script.specs.declared.told.Told.{Told}
use Rattle.script.specs.declared.told.Told.TheVariants as told
use Rattle.script.specs.declared.telling.Untold.{Untold}
use Rattle.script.specs.declared.telling.Untold.TheVariants.{OutOfMemory, Shape, TooManyRows, TooMuch}

-- ---- the shard's part of a table

-- the number of the last edition of a desk
abbrev pub edition_of_desk : Option Editions → ℕ
edition_of_desk None = 0
edition_of_desk (Some k) = keeper.edition k

-- its draft may have so many rows
abbrev pub HasLimit : ℕ → Option Editions → Type 0
HasLimit limit None = ⊤
HasLimit limit (Some k) = keeper.limit k ≡ limit

module _ (takes : Cell → Bool) where
  -- the updates of the keys that are taken, in their order
  abbrev pub share : List Update → List Update
  share us = filter (λ u. takes (key_of u)) us

  -- the draft has what these updates leave, so far as their keys are taken, over what it had; and all else stays
  pub record LaysShare (old new : Editions) (more : List Update) : Type 0 where
    pub draft : (us : List Update) → keeper.draft old ≡ table (rows us) → keeper.draft new ≡ table (rows (us ++ share more))
    pub edition : keeper.edition new ≡ keeper.edition old
    pub published : keeper.published new ≡ keeper.published old
    pub schema : keeper.schema new ≡ keeper.schema old
    pub limit : keeper.limit new ≡ keeper.limit old

  -- so it is, and nothing is told
  pub record LaysSilently (old new : Editions) (more : List Update) (it : Told) : Type 0 where
    pub lays : LaysShare old new more
    pub nothing : it ≡ told.Nothing

  -- the rows of a load are laid so, or its first fault is told
  abbrev pub LoadsShare : Editions → Editions → Result (List RowValue) Fault → Told → Type 0
  LoadsShare old new (Ok rs) it = LaysSilently old new (puts rs) it
  LoadsShare old new (Err fault) it = (new ≡ old) × (it ≡ told.Refused fault)

  -- no line has declared a table yet, and so none has put or published rows
  pub record IsBlank (givens : Givens) (before : List (List ℕ)) : Type 0 where
    pub schema : declared givens before ≡ None
    pub draft : updates givens before ≡ []
    pub published : published givens before ≡ []

  -- the ledger has the shard's part of what the lines have left
  pub record IsShare (givens : Givens) (before : List (List ℕ)) (k : Editions) : Type 0 where
    pub schema : declared givens before ≡ Some (keeper.schema k)
    pub draft : keeper.draft k ≡ table (rows (share (updates givens before)))
    pub published : keeper.published k ≡ table (taken takes (published givens before))

  -- a desk is behind these lines: there is a ledger where they declared a table
  abbrev pub IsShareBehind : Givens → List (List ℕ) → Option Editions → Type 0
  IsShareBehind givens before None = IsBlank givens before
  IsShareBehind givens before (Some k) = IsShare givens before k

  -- the step of one line: it tells what is to be told of the line, and leaves a desk that is behind the line where there is room
  pub record TellsLine (parts : List (List ℕ)) (limit : ℕ) (line : List ℕ) (old new : Option Editions) (it : Told) : Type 0 where
    pub told : (givens : Givens) (before : List (List ℕ)) → givens.parts ≡ parts → IsShareBehind givens before old → IsTold givens takes before (deed_behind givens before line) it
    pub stands : (givens : Givens) (before : List (List ℕ)) → givens.parts ≡ parts → IsShareBehind givens before old →
        Fits givens (updates givens before) (deed_behind givens before line) → IsShareBehind givens (line ∷ before) new
    pub few : edition_of_desk new ≤ edition_of_desk old + 1
    pub limited : HasLimit limit old → HasLimit limit new

-- what is told of a report over the rows of an edition, in whatever order they are listed
abbrev pub TellsReport : Edition → List ℕ → Told → Type 0
TellsReport last query it = (rs : List RowValue) → AreLeft rs → last.rows ≡ table rs → IsToldReport last.schema rs query it

-- ---- what ends a run early

-- the puts of the rows of a load, or none where it has a fault
abbrev pub puts_of : Result (List RowValue) Fault → List Update
puts_of (Ok rs) = puts rs
puts_of (Err fault) = []

-- the updates that a line asks for, whatever room there is
abbrev pub asked : List (List ℕ) → Result Deed Fault → List Update
asked parts (Ok (Updates more)) = more
asked parts (Ok (Loads t listing)) = puts_of (rows_loaded t parts listing)
asked parts (Ok Nothing) = []
asked parts (Ok (Declares t)) = []
asked parts (Ok Publishes) = []
asked parts (Ok (Reports t query)) = []
asked parts (Ok Shapes) = []
asked parts (Err fault) = []

-- none of these lines, of which the last one is the first, was refused for want of room for its rows
abbrev pub FitBehind : Givens → List (List ℕ) → Type 0
FitBehind givens [] = ⊤
FitBehind givens (line ∷ before) = Fits givens (updates givens before) (deed_behind givens before line) × FitBehind givens before

-- the line of this number is one of these, and this is so of it behind those before
pub record IsLineOf (Is : List (List ℕ) → List ℕ → Type 0) (all : List (List ℕ)) (number : ℕ) : Type 0 where
  pub before : List (List ℕ)
  pub line : List ℕ
  pub later : List (List ℕ)
  pub joined : all ≡ reverse before ++ line ∷ later
  pub place : number ≡ length before + 1
  pub is : Is before line

module _ (takes : Cell → Bool) where
  -- no room is left in the draft for the rows that the updates would leave of the shard
  abbrev pub IsFull : Editions → List Update → Type 0
  IsFull k more = (us : List Update) → keeper.draft k ≡ table (rows us) → keeper.limit k < length (rows (us ++ share takes more))

  -- how updates end a run
  abbrev pub EndsBy : Editions → ℕ → List Update → Untold → Type 0
  EndsBy k number more OutOfMemory = ⊤
  EndsBy k number more TooMuch = ⊥
  EndsBy k number more (Shape line) = ⊥
  EndsBy k number more (TooManyRows line) = (line ≡ number) × IsFull k more

  module _ (parts : List (List ℕ)) where
    -- how a line that would leave too many rows ends it at a desk
    abbrev pub Overfills : Option Editions → List ℕ → Type 0
    Overfills None bytes = ⊥
    Overfills (Some k) bytes = IsFull k (asked parts (deed (Some (keeper.schema k)) bytes))

    -- how a line ends a run at a desk
    abbrev pub EndsLine : Option Editions → ℕ → List ℕ → Untold → Type 0
    EndsLine desk number bytes OutOfMemory = ⊤
    EndsLine desk number bytes TooMuch = ⊥
    EndsLine desk number bytes (Shape line) = (line ≡ number) × (deed (schema_of_desk desk) bytes ≡ Ok Shapes)
    EndsLine desk number bytes (TooManyRows line) = (line ≡ number) × Overfills desk bytes

    -- behind those before, the line asks for a shape
    abbrev pub AsksForShape : List (List ℕ) → List ℕ → Type 0
    AsksForShape before line = (givens : Givens) → givens.parts ≡ parts → FitBehind givens before → deed_behind givens before line ≡ Ok Shapes

    -- behind those before, the line would leave more rows of the shard than the limit
    abbrev pub LacksRoom : ℕ → List (List ℕ) → List ℕ → Type 0
    LacksRoom limit before line = (givens : Givens) → givens.parts ≡ parts → FitBehind givens before →
        limit < length (rows (share takes (updates givens before ++ asked parts (deed_behind givens before line))))

    -- what ends a run over lines: one of them
    abbrev pub EndsWithin : ℕ → List (List ℕ) → Untold → Type 0
    EndsWithin limit all OutOfMemory = ⊤
    EndsWithin limit all TooMuch = ⊥
    EndsWithin limit all (Shape line) = IsLineOf AsksForShape all line
    EndsWithin limit all (TooManyRows line) = IsLineOf (LacksRoom limit) all line

    -- what ends one over a script: the script as a whole, or one of its lines
    abbrev pub EndsScript : ℕ → List ℕ → Untold → Type 0
    EndsScript limit script OutOfMemory = ⊤
    EndsScript limit script TooMuch = (script_limit < length script) ⊎ (part_limit < length parts)
    EndsScript limit script (Shape line) = IsLineOf AsksForShape (lines script) line
    EndsScript limit script (TooManyRows line) = IsLineOf (LacksRoom limit) (lines script) line

-- loaded rows leave no room, beside those that the draft has
abbrev pub EndsOver : Editions → ℕ → Rows → Untold → Type 0
EndsOver k number left OutOfMemory = ⊤
EndsOver k number left TooMuch = ⊥
EndsOver k number left (Shape line) = ⊥
EndsOver k number left (TooManyRows line) = (line ≡ number) × (keeper.limit k < map.len left)
