-- A run that may stop after a refused line. The lines before a line stand with the last one first.
use Rattle.std.specs.Prelude.{◌≡◌, ◌⊎◌, ◌+◌, ℕ, Bool, true, false, List, [], ◌∷◌, ◌++◌, length, reverse, Result, Ok, Err, ⊤}
use Rattle.cells.specs.Updates.{Update, puts}
use Rattle.cells.specs.Values.{RowValue, Table}
use Rattle.cells.specs.declared.cell.Cell.{Cell}
use Rattle.cells.specs.declared.refused.Refused.{Refused}
use Rattle.forms.specs.declared.form.Form.{Form}
use Rattle.script.specs.Deeds.{Declares, Deed, Loads, Nothing, Publishes, Reports, Shapes, Updates}
use Rattle.script.specs.Givens.{Givens}
use Rattle.script.specs.Listings.{rows_loaded}
use Rattle.script.specs.Output.{IsBlock, deed_behind, is_overfull, published, updates}
use Rattle.script.specs.Says.{Says}
use Rattle.script.specs.Spelling.{refusal}
use Rattle.script.specs.declared.fault.Fault.{Fault}
use Rattle.script.specs.declared.finish.Finish.{Finish}
use Rattle.script.specs.declared.finish.Finish.TheVariants.{Stopped, Through}
use Rattle.script.specs.declared.on_refusal.OnRefusal.{OnRefusal}
use Rattle.script.specs.declared.on_refusal.OnRefusal.TheVariants.{GoesOn, Stops}

-- the bytes are the block of a refused line of this number, in one of the forms
pub record IsRefusal (number : ℕ) (bytes : List ℕ) : Type 0 where
  pub form : Form
  pub fault : Fault
  pub is : bytes ≡ refusal form number fault

-- the text of a report asks wrongly over these rows: it says a fault
pub record AsksWrongly (t : Table) (rs : List RowValue) (query : List ℕ) : Type 0 where
  pub fault : Refused
  pub says : Says t rs query (Err fault)

-- a load is refused that puts these rows, or has a first fault
abbrev pub is_refused_load : ℕ → List Update → Result (List RowValue) Fault → Bool
is_refused_load limit us (Ok rs) = is_overfull limit us (puts rs)
is_refused_load limit us (Err fault) = true

-- a line that does this is refused behind those before
abbrev pub IsRefusedDeed : Givens → List (List ℕ) → Result Deed Fault → Type 0
IsRefusedDeed givens before (Ok Nothing) = ⊥
IsRefusedDeed givens before (Ok (Declares t)) = ⊥
IsRefusedDeed givens before (Ok (Loads t listing)) = is_refused_load givens.limit (updates givens before) (rows_loaded t givens.parts listing) ≡ true
IsRefusedDeed givens before (Ok (Updates more)) = is_overfull givens.limit (updates givens before) more ≡ true
IsRefusedDeed givens before (Ok Publishes) = ⊥
IsRefusedDeed givens before (Ok (Reports t query)) = AsksWrongly t (published givens before) query
IsRefusedDeed givens before (Ok Shapes) = ⊥
IsRefusedDeed givens before (Err fault) = ⊤

abbrev pub IsRefusedLine : Givens → List (List ℕ) → List ℕ → Type 0
IsRefusedLine givens before line = IsRefusedDeed givens before (deed_behind givens before line)

-- it is told right whether something is so
abbrev pub Tells : Bool → Type 0 → Type 0
Tells true Is = Is
Tells false Is = Is → ⊥

-- the line writes nothing, or is refused
abbrev pub IsQuiet : ℕ → List ℕ → Type 0
IsQuiet number bytes = (bytes ≡ []) ⊎ IsRefusal number bytes

-- a run stops after a line, which may be refused
abbrev pub StopsAfter : OnRefusal → Type 0 → Type 0
StopsAfter GoesOn Refused = ⊥
StopsAfter Stops Refused = Refused

-- the same, by whether the line is refused
abbrev pub stops : OnRefusal → Bool → Bool
stops GoesOn refused = false
stops Stops refused = refused

-- how a run is finished whose last line is refused
abbrev pub finish_of_refused : OnRefusal → Finish
finish_of_refused GoesOn = Through
finish_of_refused Stops = Stopped

-- the bytes are the blocks of the lines that follow those before, one after another: of all of them, or up to the first
-- after which the run stops, and with it
pub data AreBlocksUpTo (hash : Cell → ℕ) (givens : Givens) (on : OnRefusal) : List (List ℕ) → List (List ℕ) → Finish → List ℕ → Type 0 where
  no_line : {before : List (List ℕ)} → AreBlocksUpTo hash givens on before [] Through []
  last_line : {before later : List (List ℕ)} {line bytes : List ℕ} →
      IsBlock hash givens before line bytes → StopsAfter on (IsRefusedLine givens before line) →
      AreBlocksUpTo hash givens on before (line ∷ later) Stopped bytes
  line_first : {before later : List (List ℕ)} {line : List ℕ} {finish : Finish} (bytes rest : List ℕ) →
      IsBlock hash givens before line bytes → (StopsAfter on (IsRefusedLine givens before line) → ⊥) → AreBlocksUpTo hash givens on (line ∷ before) later finish rest →
      AreBlocksUpTo hash givens on before (line ∷ later) finish (bytes ++ rest)

-- the lines that follow those before are some of which none is refused, then one that is, and others; the bytes are the
-- blocks of all but those others
pub record StoppedAt (hash : Cell → ℕ) (givens : Givens) (before lines : List (List ℕ)) (bytes : List ℕ) : Type 0 where
  pub earlier : List (List ℕ)
  pub line : List ℕ
  pub later : List (List ℕ)
  pub first : List ℕ
  pub block : List ℕ
  pub parted : lines ≡ earlier ++ line ∷ later
  pub accepted : AreBlocksUpTo hash givens Stops before earlier Through first
  pub is_block : IsBlock hash givens (reverse earlier ++ before) line block
  pub is_refused : IsRefusedLine givens (reverse earlier ++ before) line
  pub refused : IsRefusal (length (reverse earlier ++ before) + 1) block
  pub joined : bytes ≡ first ++ block

-- the bytes are so, however the run is finished
pub record HoweverFinished (Is : Finish → List ℕ → Type 0) (bytes : List ℕ) : Type 0 where
  pub finish : Finish
  pub is : Is finish bytes
