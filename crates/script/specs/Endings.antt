-- How a run ends, and what its writer has taken then.
use Rattle.std.specs.Prelude.{◌≡◌, ◌<◌, ℕ, List, ◌∷◌, ◌++◌, reverse, Option, OnErr, OnOk, IsErrOf, Result, Ok}
use Rattle.std.specs.Io.KnownBytes.{Appends}
use Rattle.cells.specs.Refusals.{number_of}
use Rattle.cells.specs.Values.{Table}
use Rattle.cells.specs.declared.refused.Refused.{Refused}
use Rattle.cells.specs.declared.refused.Refused.TheVariants as refused
use Rattle.loader.specs.declared.fault.PartFault.{PartFault}
use Rattle.loader.specs.declared.fault.PartFault.TheVariants as part
use Rattle.report.specs.Taken.{TakesBeginning}
use Rattle.report.specs.declared.unwritten.Unwritten.{Unwritten}
use Rattle.report.specs.declared.unwritten.Unwritten.TheVariants as unwritten
use Rattle.report.specs.declared.want.Want.{Want}
use Rattle.report.specs.declared.want.Want.TheVariants as want
use Rattle.script.specs.Deeds.{Deed, Loads, Reports}
use Rattle.script.specs.Givens.{Givens}
use Rattle.script.specs.Output.{deed_behind}
use Rattle.script.specs.declared.ended.Ended.{Ended}
use Rattle.script.specs.declared.ended.Ended.TheVariants.{NoWorker, NotShown, OutOfMemory, WriteFailed}
use Rattle.script.specs.declared.fault.Fault.{Fault}
use Rattle.script.specs.declared.unstarted.Unstarted.{Unstarted}
use Rattle.script.specs.declared.unstarted.Unstarted.TheVariants as unstarted

-- the refusals of the names of early ends
abbrev pub refusal_named : Ended → Refused
refusal_named OutOfMemory = refused.OutOfMemory
refusal_named NoWorker = refused.NoWorker
refusal_named WriteFailed = refused.WriteFailed
refusal_named NotShown = refused.NotShown

-- the numbers of a run that ended early: those of the refusals of the same names
abbrev pub ending_number : Ended → ℕ
ending_number why = number_of (refusal_named why)

-- the end of a run that wanted this
abbrev pub ended_for : Want → Ended
ended_for want.Memory = OutOfMemory
ended_for want.Worker = NoWorker

-- of one whose text was not written
abbrev pub ended_unwritten : Unwritten → Ended
ended_unwritten (unwritten.Want wanted) = ended_for wanted
ended_unwritten unwritten.WriteFailed = WriteFailed

-- of one whose viewers were not started
abbrev pub ended_unstarted : Unstarted → Ended
ended_unstarted (unstarted.Want wanted) = ended_for wanted
ended_unstarted unstarted.NotShown = NotShown

-- what a load wanted that has no rows, and no faulty part
abbrev pub want_of_load : PartFault → Want
want_of_load (part.Bad number entry) = want.Memory
want_of_load part.OutOfMemory = want.Memory
want_of_load part.NoWorker = want.Worker

-- a line that does this has workers: it asks for a report, or loads parts
pub data HasWorkers : Result Deed Fault → Type 0 where
  reports : {table : Table} {query : List ℕ} → HasWorkers (Ok (Reports table query))
  loads : {table : Table} {listing : List ℕ} → HasWorkers (Ok (Loads table listing))

-- a line of the script has workers; the lines before it stand with the last one first
pub record AsksForWorkers (givens : Givens) (script : List (List ℕ)) : Type 0 where
  pub before : List (List ℕ)
  pub line : List ℕ
  pub later : List (List ℕ)
  pub parted : script ≡ reverse before ++ line ∷ later
  pub has : HasWorkers (deed_behind givens before line)

-- the writer took bytes that are so, whole
pub record Writes (IsWhole : List ℕ → Type 0) (old new : Option (List ℕ)) : Type 0 where
  pub whole : List ℕ
  pub is_whole : IsWhole whole
  pub taken : Appends old new whole

-- the writer took a beginning of bytes that are so
pub record BeginsToWrite (IsWhole : List ℕ → Type 0) (old new : Option (List ℕ)) : Type 0 where
  pub whole : List ℕ
  pub is_whole : IsWhole whole
  pub beginning : TakesBeginning old new whole

-- The call wrote bytes that are so, or a beginning of such bytes where it ended early; it ended for the writer's sake only
-- where the writer failed in the call. `taken` and `faults` are what a writer tells, `old` and `new` the writer before and
-- after.
pub record Delivers {W T : Type 0} (taken : W → Option (List ℕ)) (faults : W → ℕ) (old new : W) (IsWhole : List ℕ → Type 0) (result : Result T Ended) : Type 0 where
  pub output : OnOk result (Writes IsWhole (taken old) (taken new))
  pub beginning : OnErr result (BeginsToWrite IsWhole (taken old) (taken new))
  pub fault : IsErrOf result WriteFailed → faults old < faults new
  pub sound : OnOk result (faults new ≡ faults old)

-- how a run ends: it delivers bytes that are so, wants a worker only where it asks for workers, and a viewer's place only
-- where it has viewers
pub record Ends {W T : Type 0} (taken : W → Option (List ℕ)) (faults : W → ℕ) (old new : W) (IsWhole : List ℕ → Type 0) (Asks Views : Type 0) (result : Result T Ended) : Type 0 where
  pub delivered : Delivers taken faults old new IsWhole result
  pub worker : IsErrOf result NoWorker → Asks
  pub place : IsErrOf result NotShown → Views
