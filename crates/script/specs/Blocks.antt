-- What a line gives: the text of its block, or a report whose answer is still to come.
use Rattle.std.specs.Prelude.{◌≡◌, ◌+◌, ℕ, Bool, true, false, List, [], ◌∷◌, length, Option, Ok, Vec, ⊤}
use Rattle.std.specs.declared.alloc.Global.{Global}
use Rattle.board.specs.Editions.{Edition, Editions}
use Rattle.cells.specs.Tables.{table}
use Rattle.cells.specs.Updates.{AreLeft}
use Rattle.cells.specs.Values.{RowValue}
use Rattle.cells.specs.declared.cell.Cell.{Cell}
use Rattle.query.specs.Plans.{PlanTree}
use Rattle.report.specs.Waiting.{Heads}
use Rattle.script.specs.Deeds.{deed}
use Rattle.script.specs.Endings.{HasWorkers}
use Rattle.script.specs.Givens.{Givens}
use Rattle.script.specs.Output.{IsBlock, IsReport, report}
use Rattle.script.specs.Says.{answer_of}
use Rattle.script.specs.Stops.{AsksWrongly, IsRefusedLine, Tells}
use Rattle.script.specs.Desks.{IsBehind, Stays, schema_of_desk}
use Rattle.script.specs.declared.block.Block.{Block}
use Rattle.script.specs.declared.block.Block.TheVariants.{Refusal, Report, Text}
use Rattle.script.specs.declared.manner.Manner.{Manner}

-- the block will be this text
abbrev pub WillBe : {H : Type 0} → Block H → List ℕ → Type 0
WillBe (Text bytes) text = bytes.items ≡ text
WillBe (Refusal bytes) text = bytes.items ≡ text
WillBe (Report asked) text = Heads asked.opening.items asked.snapshot asked.question text

-- an answer is still to come
abbrev pub IsAsked : {H : Type 0} → Block H → Type 0
IsAsked (Text bytes) = ⊥
IsAsked (Refusal bytes) = ⊥
IsAsked (Report asked) = ⊤

-- the line is refused
abbrev pub is_refused : {H : Type 0} → Block H → Bool
is_refused (Text bytes) = false
is_refused (Refusal bytes) = true
is_refused (Report asked) = false

-- what a line gives that writes nothing where it is accepted
abbrev pub quiet_by : {H : Type 0} → List ℕ → Vec ℕ Global → Block H
quiet_by [] bytes = Text bytes
quiet_by (b ∷ bs) bytes = Refusal bytes

abbrev pub quiet : {H : Type 0} → Vec ℕ Global → Block H
quiet bytes = quiet_by bytes.items bytes

-- the text that a line's block will be, and it is told whether the line is refused
pub record Foretells {H : Type 0} (Is : List ℕ → Type 0) (Refused : Type 0) (block : Block H) : Type 0 where
  pub text : List ℕ
  pub is : Is text
  pub will : WillBe block text
  pub tells : Tells (is_refused block) Refused

-- the step of one line: it gives what will be the line's block, and leaves a run that stands behind the line; a keeper
-- stays, and where an answer is still to come, the line has workers
pub record Steps {H : Type 0} (hash : Cell → ℕ) (givens : Givens) (line : List ℕ) (number : ℕ) (old new : Option Editions) (block : Block H) : Type 0 where
  pub foretells : (before : List (List ℕ)) → IsBehind givens before old → number ≡ length before + 1 → Foretells (IsBlock hash givens before line) (IsRefusedLine givens before line) block
  pub stands : (before : List (List ℕ)) → IsBehind givens before old → IsBehind givens (line ∷ before) new
  pub stays : Stays old new
  pub asks : IsAsked block → HasWorkers (deed (schema_of_desk old) line)

-- the block will be that of a report over the rows of the last edition, in whatever order they are listed
pub record WillReport {H : Type 0} (manner : Manner) (last : Edition) (number : ℕ) (query : List ℕ) (block : Block H) : Type 0 where
  pub is : (rs : List RowValue) → AreLeft rs → last.rows ≡ table rs → Foretells (IsReport manner number last.number last.schema rs query) (AsksWrongly last.schema rs query) block

-- the block will be that of the plan's answer over those rows
pub record WillReportPlan {H : Type 0} (manner : Manner) (last : Edition) (number : ℕ) (plan : PlanTree) (block : Block H) : Type 0 where
  pub is : (rs : List RowValue) → AreLeft rs → last.rows ≡ table rs → WillBe block (report manner number last.number (Ok (answer_of plan rs)))
  pub accepted : is_refused block ≡ false
