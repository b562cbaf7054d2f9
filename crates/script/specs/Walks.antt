-- What the lines of a script do by themselves, with no rows beside. The lines before a line stand with the last one first.
use Rattle.std.specs.Prelude.{◌≡◌, ◌+◌, ℕ, List, [], ◌∷◌, length, if◌then◌else◌, Option, Some, Result, Ok, Err, ⊤}
use Rattle.cells.specs.Updates.{Delete, Put, Update}
use Rattle.cells.specs.Values.{RowValue, Table}
use Rattle.script.specs.Deeds.{Declares, Deed, Loads, Nothing, Publishes, Reports, Shapes, Updates, deed}
use Rattle.script.specs.Givens.{Givens}
use Rattle.script.specs.Output.{declared, declared_by, edition, is_publish}
use Rattle.script.specs.declared.fault.Fault.{Fault}
use Rattle.script.specs.declared.walk.Doing.{Doing}
use Rattle.script.specs.declared.walk.Doing.TheVariants as doing
use Rattle.script.specs.declared.walk.Walk.{Walk}

-- these lines are gone over, whatever the run is given
pub record StandsBehind (before : List (List ℕ)) (walk : Walk) : Type 0 where
  pub same_schema : (givens : Givens) → declared givens before ≡ walk.schema
  pub same_edition : (givens : Givens) → walk.edition ≡ edition givens before
  pub same_number : walk.number ≡ length before

-- none of these updates puts a row
abbrev pub PutNothing : List Update → Type 0
PutNothing [] = ⊤
PutNothing (Put row ∷ more) = ⊥
PutNothing (Delete key ∷ more) = PutNothing more

-- a line that does this writes nothing, and puts no row
abbrev pub IsSilent : Result Deed Fault → Type 0
IsSilent (Ok Nothing) = ⊤
IsSilent (Ok (Declares t)) = ⊤
IsSilent (Ok (Updates more)) = PutNothing more
IsSilent (Ok Publishes) = ⊤
IsSilent (Ok (Loads t listing)) = ⊥
IsSilent (Ok (Reports t query)) = ⊥
IsSilent (Ok Shapes) = ⊥
IsSilent (Err fault) = ⊥

-- it puts a row
pub record PutsRow (does : Result Deed Fault) : Type 0 where
  pub row : RowValue
  pub is : does ≡ Ok (Updates (Put row ∷ []))

-- it loads parts
abbrev pub IsLoad : Result Deed Fault → Type 0
IsLoad (Ok (Loads t listing)) = ⊤
IsLoad (Ok Nothing) = ⊥
IsLoad (Ok (Declares t)) = ⊥
IsLoad (Ok (Updates more)) = ⊥
IsLoad (Ok Publishes) = ⊥
IsLoad (Ok (Reports t query)) = ⊥
IsLoad (Ok Shapes) = ⊥
IsLoad (Err fault) = ⊥

-- it reports on the text, over the table that is declared
pub record IsReportOn (declared : Option Table) (query : List ℕ) (does : Result Deed Fault) : Type 0 where
  pub table : Table
  pub has : declared ≡ Some table
  pub is : does ≡ Ok (Reports table query)

-- what a line does, as far as it counts
abbrev pub IsDoing : Option Table → Result Deed Fault → Doing → Type 0
IsDoing declared does doing.Quiet = IsSilent does
IsDoing declared does doing.Puts = PutsRow does
IsDoing declared does doing.Loads = IsLoad does
IsDoing declared does (doing.Reports query) = IsReportOn declared query.now does
IsDoing declared does doing.Shape = does ≡ Ok Shapes
IsDoing declared does (doing.Refused fault) = does ≡ Err fault

-- a line takes the declared schema and the number of editions on, and does this
pub record Takes (line : List ℕ) (old new : Option Table) (editions after : ℕ) (doing : Doing) : Type 0 where
  pub declares : new ≡ declared_by old (deed old line)
  pub publishes : after ≡ (if is_publish (deed old line) then editions + 1 else editions)
  pub does : IsDoing new (deed old line) doing

-- a line is gone over, and does this
pub record GoesOver (line : List ℕ) (old new : Walk) (doing : Doing) : Type 0 where
  pub takes : Takes line old.schema new.schema old.edition new.edition doing
  pub counts : new.number ≡ old.number + 1
