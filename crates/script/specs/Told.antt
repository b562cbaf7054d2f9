-- What a run over a shard tells of the lines of a script: of a load whether it is refused, and of a report what is kept of the
-- shard's rows. The lines before a line stand with the last one first.
use Rattle.std.specs.Prelude.{◌≡◌, ⊤, Bool, false, ℕ, List, [], ◌∷◌, Result, Ok, Err}
use Rattle.cells.specs.Updates.{Update, puts}
use Rattle.cells.specs.Values.{RowValue, Table}
use Rattle.cells.specs.declared.cell.Cell.{Cell}
use Rattle.cells.specs.declared.refused.Refused.{Refused}
use Rattle.groups.specs.Groups.{kept}
use Rattle.groups.specs.Told.{GroupValue, Tells}
use Rattle.loader.specs.Shards.{taken}
use Rattle.query.specs.Plans.{PlanTree}
use Rattle.script.specs.Deeds.{Declares, Deed, Loads, Nothing, Publishes, Reports, Shapes, Updates}
use Rattle.script.specs.Givens.{Givens}
use Rattle.script.specs.Listings.{rows_loaded}
use Rattle.script.specs.Output.{deed_behind, is_overfull, published, updates}
use Rattle.script.specs.Says.{MeansPlan, Says}
use Rattle.script.specs.declared.fault.Fault.{Fault}
use Rattle.script.specs.declared.told.Told.{Told}
use Rattle.script.specs.declared.told.Told.TheVariants as told

-- ---- room for rows

-- the rows of a load have room
abbrev pub FitsLoaded : ℕ → List Update → Result (List RowValue) Fault → Type 0
FitsLoaded limit us (Ok rs) = is_overfull limit us (puts rs) ≡ false
FitsLoaded limit us (Err fault) = ⊤

-- what a line adds has room
abbrev pub Fits : Givens → List Update → Result Deed Fault → Type 0
Fits givens us (Ok (Updates more)) = is_overfull givens.limit us more ≡ false
Fits givens us (Ok (Loads t listing)) = FitsLoaded givens.limit us (rows_loaded t givens.parts listing)
Fits givens us (Ok Nothing) = ⊤
Fits givens us (Ok (Declares t)) = ⊤
Fits givens us (Ok Publishes) = ⊤
Fits givens us (Ok (Reports t query)) = ⊤
Fits givens us (Ok Shapes) = ⊤
Fits givens us (Err fault) = ⊤

-- no line that follows those before is refused for want of room for its rows
abbrev pub FitAll : Givens → List (List ℕ) → List (List ℕ) → Type 0
FitAll givens before [] = ⊤
FitAll givens before (line ∷ later) = Fits givens (updates givens before) (deed_behind givens before line) × FitAll givens (line ∷ before) later

-- ---- what is told

-- of a load: nothing, or its first fault
abbrev pub told_load : Result (List RowValue) Fault → Told
told_load (Ok rs) = told.Nothing
told_load (Err fault) = told.Refused fault

-- over these rows the text asks for a plan, and this is kept for it
pub record IsKeptFor (t : Table) (rs : List RowValue) (query : List ℕ) (sets : List (List GroupValue)) : Type 0 where
  pub plan : PlanTree
  pub means : MeansPlan t query plan
  pub tells : Tells plan (kept plan.condition rs) sets

-- the text of a report is refused over these rows
pub record IsRefusedReport (t : Table) (rs : List RowValue) (query : List ℕ) : Type 0 where
  pub fault : Refused
  pub says : Says t rs query (Err fault)

-- of a report: what is kept of these rows, or nothing where it is refused
abbrev pub IsToldReport : Table → List RowValue → List ℕ → Told → Type 0
IsToldReport t rs query told.Nothing = IsRefusedReport t rs query
IsToldReport t rs query (told.Refused fault) = ⊥
IsToldReport t rs query (told.Kept sets) = IsKeptFor t rs query sets.items

module _ (givens : Givens) (takes : Cell → Bool) where
  -- of a line that does this: a shape can't be told
  abbrev pub IsTold : List (List ℕ) → Result Deed Fault → Told → Type 0
  IsTold before (Ok (Loads t listing)) it = it ≡ told_load (rows_loaded t givens.parts listing)
  IsTold before (Ok (Reports t query)) it = IsToldReport t (taken takes (published givens before)) query it
  IsTold before (Ok Shapes) it = ⊥
  IsTold before (Ok Nothing) it = it ≡ told.Nothing
  IsTold before (Ok (Declares t)) it = it ≡ told.Nothing
  IsTold before (Ok (Updates more)) it = it ≡ told.Nothing
  IsTold before (Ok Publishes) it = it ≡ told.Nothing
  IsTold before (Err fault) it = it ≡ told.Nothing

  -- of each of the lines that follow those before, of the rows whose keys are taken
  abbrev pub AreTold : List (List ℕ) → List (List ℕ) → List Told → Type 0
  AreTold before [] [] = ⊤
  AreTold before [] (it ∷ more) = ⊥
  AreTold before (line ∷ later) [] = ⊥
  AreTold before (line ∷ later) (it ∷ more) = IsTold before (deed_behind givens before line) it × AreTold (line ∷ before) later more
