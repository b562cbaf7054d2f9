-- A run over parts of its own, beside the run over all rows: what of its loads has which part. The lines before a line stand with
-- the last one first.
use Rattle.std.specs.Prelude.{◌≡◌, ◌+◌, ⊤, Bool, ℕ, List, [], ◌∷◌, ◌++◌, length, Result, Ok, Err}
use Rattle.std.specs.Str.Lines.{lines}
use Rattle.cells.specs.Values.{RowValue, Table}
use Rattle.cells.specs.declared.cell.Cell.{Cell}
use Rattle.loader.specs.Shards.{taken}
use Rattle.script.specs.Deeds.{Declares, Deed, Loads, Nothing, Publishes, Reports, Shapes, Updates}
use Rattle.script.specs.Givens.{Givens}
use Rattle.script.specs.Listings.{rows_loaded}
use Rattle.script.specs.Output.{deed_behind}
use Rattle.script.specs.Telling.{EndsScript, IsLineOf}
use Rattle.script.specs.Told.{FitAll}
use Rattle.script.specs.Walks.{PutNothing, PutsRow}
use Rattle.script.specs.declared.fault.Fault.{Fault}
use Rattle.script.specs.declared.own.OwnUntold.{OwnUntold}
use Rattle.script.specs.declared.own.OwnUntold.TheVariants as own
use Rattle.script.specs.declared.told.Told.{Told}
use Rattle.script.specs.declared.told.Told.TheVariants as told

-- ---- whose parts have which rows

module _ (givens : Givens) (takes : Cell → Bool) (parts : List (List ℕ)) where
  -- of the rows that the load puts in the run over all rows, these parts have those whose keys are taken
  pub record HasItsRows (t : Table) (listing : List ℕ) : Type 0 where
    pub rs : List RowValue
    pub all : rows_loaded t givens.parts listing ≡ Ok rs
    pub own : rows_loaded t parts listing ≡ Ok (taken takes rs)

  -- so it is of a line that does this, if it loads parts
  abbrev pub HasOwn : Result Deed Fault → Type 0
  HasOwn (Ok (Loads t listing)) = HasItsRows t listing
  HasOwn (Ok Nothing) = ⊤
  HasOwn (Ok (Declares t)) = ⊤
  HasOwn (Ok (Updates more)) = ⊤
  HasOwn (Ok Publishes) = ⊤
  HasOwn (Ok (Reports t query)) = ⊤
  HasOwn (Ok Shapes) = ⊤
  HasOwn (Err fault) = ⊤

  -- and of each of the lines that follow those before
  abbrev pub HaveOwn : List (List ℕ) → List (List ℕ) → Type 0
  HaveOwn before [] = ⊤
  HaveOwn before (line ∷ later) = HasOwn (deed_behind givens before line) × HaveOwn (line ∷ before) later

-- ---- what such a run refuses

-- a line that does this puts no row
abbrev pub PutsNoRow : Result Deed Fault → Type 0
PutsNoRow (Ok (Updates more)) = PutNothing more
PutsNoRow (Ok Nothing) = ⊤
PutsNoRow (Ok (Declares t)) = ⊤
PutsNoRow (Ok (Loads t listing)) = ⊤
PutsNoRow (Ok Publishes) = ⊤
PutsNoRow (Ok (Reports t query)) = ⊤
PutsNoRow (Ok Shapes) = ⊤
PutsNoRow (Err fault) = ⊤

-- nor does any of the lines that follow those before
abbrev pub PutNoRows : Givens → List (List ℕ) → List (List ℕ) → Type 0
PutNoRows givens before [] = ⊤
PutNoRows givens before (line ∷ later) = PutsNoRow (deed_behind givens before line) × PutNoRows givens (line ∷ before) later

-- behind those before, the line puts a row, whatever the run is given
abbrev pub Puts : List (List ℕ) → List ℕ → Type 0
Puts before line = (givens : Givens) → PutsRow (deed_behind givens before line)

-- of no load is told that it is refused
abbrev pub NoneRefused : List Told → Type 0
NoneRefused [] = ⊤
NoneRefused (told.Refused fault ∷ more) = ⊥
NoneRefused (told.Nothing ∷ more) = NoneRefused more
NoneRefused (told.Kept sets ∷ more) = NoneRefused more

-- of the line of this number it is, for this
pub record IsRefusedAt (tolds : List Told) (number : ℕ) (fault : Fault) : Type 0 where
  pub before : List Told
  pub later : List Told
  pub joined : tolds ≡ before ++ told.Refused fault ∷ later
  pub place : number ≡ length before + 1

-- it loads parts, which are refused for this
pub record IsBadLoad (parts : List (List ℕ)) (fault : Fault) (does : Result Deed Fault) : Type 0 where
  pub table : Table
  pub listing : List ℕ
  pub is : does ≡ Ok (Loads table listing)
  pub refused : rows_loaded table parts listing ≡ Err fault

-- so does the line of this number, where there is room for the rows of each line
abbrev pub LoadsBadly : List (List ℕ) → List (List ℕ) → ℕ → Fault → Type 0
LoadsBadly parts all number fault = (givens : Givens) → givens.parts ≡ parts → FitAll givens [] all → IsLineOf (λ before line. IsBadLoad parts fault (deed_behind givens before line)) all number

-- what ends a run over parts of its own
abbrev pub EndsOwn : (Cell → Bool) → List (List ℕ) → ℕ → List ℕ → OwnUntold → Type 0
EndsOwn all parts limit script (own.Untold why) = EndsScript all parts limit script why
EndsOwn all parts limit script (own.Put line) = IsLineOf Puts (lines script) line
EndsOwn all parts limit script (own.Load line fault) = LoadsBadly parts (lines script) line fault
