-- A run that may have viewers beside it.
use Rattle.std.specs.Prelude.{◌≡◌, ◌<◌, ◌≤◌, ◌+◌, ℕ, List, [], ◌++◌, IfOk, Option, Some, None, Result, Err, ⊤, length, map, reverse}
use Rattle.std.specs.Io.KnownBytes.{Appends}
use Rattle.std.specs.Borrow.{Bor}
use Rattle.std.specs.List.{AllByRecursion}
use Rattle.std.specs.Str.Lines.{lines}
use Rattle.cells.specs.Values.{Table}
use Rattle.cells.specs.declared.cell.Cell.{Cell}
use Rattle.cells.specs.declared.refused.Refused.{Refused}
use Rattle.cells.specs.declared.refused.Refused.TheVariants.{Limit, NoTable}
use Rattle.script.specs.declared.fault.Fault.TheVariants.{Line}
use Rattle.board.specs.Editions.{Editions}
use Rattle.board.specs.Editions as keeper
use Rattle.forms.specs.declared.form.Form.{Form}
use Rattle.query.specs.Plans.{PlanTree}
use Rattle.report.specs.Onlooking.{Onlooking, OnlookersValue}
use Rattle.report.specs.Waiting.{Awaits, Waits}
use Rattle.report.specs.Watching.{Sight, Watch}
use Rattle.report.specs.declared.question.Question.{Question}
use Rattle.script.specs.Endings.{AsksForWorkers, Ends, Writes}
use Rattle.script.specs.Givens.{Givens}
use Rattle.script.specs.Limits.{part_limit, script_limit}
use Rattle.script.specs.Manners.{question_in}
use Rattle.script.specs.Output.{InTwo, IsOutput, IsTooMuch, edition}
use Rattle.script.specs.Says.{MeansPlan, Says}
use Rattle.script.specs.Stops.{AreBlocksUpTo, HoweverFinished}
use Rattle.script.specs.Spelling.{refusal, view_heading, viewers_refused}
use Rattle.script.specs.Desks.{IsBehind}
use Rattle.script.specs.Tails.{IsLive, IsTailBehind, Viewing}
use Rattle.script.specs.Turns.{AreBlocksBeside, IsLiveBeside, ShowsNext, Turn, first_turns}
use Rattle.script.specs.declared.ended.Ended.{Ended}
use Rattle.script.specs.declared.finish.Finish.{Finish}
use Rattle.script.specs.declared.manner.Manner.{Manner}
use Rattle.script.specs.declared.finish.Finish.TheVariants.{Stopped, Through}
use Rattle.script.specs.declared.on_refusal.OnRefusal.{OnRefusal}
use Rattle.script.specs.declared.on_refusal.OnRefusal.TheVariants.{GoesOn, Stops}
use Rattle.script.specs.declared.stage.Stage.{Stage}
use Rattle.script.specs.declared.stage.Stage.TheVariants.{Begun, Expected, Turned}
use Rattle.script.specs.declared.viewing.Showing.{Showing}
use Rattle.script.specs.declared.viewing.Showing.TheVariants.{AsTheyCome, Last}
use Rattle.script.specs.declared.viewing.Viewing.{Viewing as Asked}

-- what is asked by a query that is lent
abbrev pub viewing_of : Asked (Bor (List ℕ)) → Viewing
viewing_of asked = record { query = asked.query.now; viewers = asked.viewers; shots = asked.shots; showing = asked.showing }

abbrev pub asked_of : Option (Asked (Bor (List ℕ))) → Option Viewing
asked_of None = None
asked_of (Some asked) = Some (viewing_of asked)

-- a run has viewers
abbrev pub HasViewers : Option Viewing → Type 0
HasViewers None = ⊥
HasViewers (Some viewing) = ⊤

-- what a run with viewers writes as a whole, by when their blocks are written
abbrev pub IsShown : Showing → (Cell → ℕ) → Givens → Viewing → List ℕ → List ℕ → Type 0
IsShown Last hash givens viewing script bytes = IsLive hash givens viewing script bytes
IsShown AsTheyCome hash givens viewing script bytes = IsLiveBeside hash givens viewing script bytes

-- what a run writes as a whole that may have viewers
abbrev pub IsWritten : (Cell → ℕ) → Givens → Option Viewing → List ℕ → List ℕ → Type 0
IsWritten hash givens None script bytes = IsOutput hash givens script bytes
IsWritten hash givens (Some viewing) script bytes = IsShown viewing.showing hash givens viewing script bytes

-- the query is asked, so that its answers are told in this way
pub record IsAskedSo (manner : Manner) (t : Table) (query : List ℕ) (question : Question) : Type 0 where
  pub plan : PlanTree
  pub means : MeansPlan t query plan
  pub is : question ≡ question_in manner plan

abbrev pub AreAsked : Manner → Table → List ℕ → List Question → Type 0
AreAsked manner t query questions = AllByRecursion (IsAskedSo manner t query) questions

-- a viewer was started on the keeper's board, and answers the query
pub record IsStarted (manner : Manner) (viewing : Viewing) (k : Editions) (watch : Watch) : Type 0 where
  pub board : watch.before.viewer.board ≡ keeper.board k
  pub schema : watch.before.viewer.schema ≡ keeper.schema k
  pub asked : IsAskedSo manner (keeper.schema k) viewing.query watch.before.question
  pub none : watch.before.shots ≡ []
  pub count : watch.count ≡ viewing.shots

-- a report of a viewer under its heading
abbrev pub view_block : Form → ℕ → Sight → List ℕ
view_block form viewer shot = view_heading form viewer shot.edition ++ shot.text

-- a viewer that shows its blocks as they come is one of the keeper's table, and answers the query; it knows the edition that it showed last
pub record IsOnlooking (manner : Manner) (viewing : Viewing) (k : Editions) (onlooker : Onlooking) : Type 0 where
  pub board : onlooker.viewer.board ≡ keeper.board k
  pub schema : onlooker.viewer.schema ≡ keeper.schema k
  pub asked : IsAskedSo manner (keeper.schema k) viewing.query onlooker.question
  pub late : onlooker.least ≤ keeper.edition k
  pub knows : onlooker.least + 1 ≤ length onlooker.viewer.history

-- one that goes has blocks to show before its last one, and one that waits has none
abbrev pub IsGoing : Manner → Viewing → Editions → Onlooking → Type 0
IsGoing manner viewing k onlooker = IsOnlooking manner viewing k onlooker × (0 < onlooker.left)

abbrev pub IsWaiting : Manner → Viewing → Editions → Onlooking → Type 0
IsWaiting manner viewing k onlooker = IsOnlooking manner viewing k onlooker × (onlooker.left ≡ 0)

pub record AreOnlooking (manner : Manner) (viewing : Viewing) (k : Editions) (onlookers : OnlookersValue) : Type 0 where
  pub going : AllByRecursion (IsGoing manner viewing k) onlookers.going
  pub waiting : AllByRecursion (IsWaiting manner viewing k) onlookers.waiting

-- nobody looks on
abbrev pub nobody : OnlookersValue
nobody = record { going = []; waiting = [] }

-- their blocks that are still to come
abbrev pub turn_of : Onlooking → Turn
turn_of onlooker = record { viewer = onlooker.number; left = onlooker.left; least = onlooker.least }

abbrev pub turns_in : OnlookersValue → List Turn
turns_in onlookers = map turn_of (onlookers.going ++ onlookers.waiting)

-- the same of viewers that may not have begun
abbrev pub turns_at : Viewing → Stage → OnlookersValue → List Turn
turns_at viewing Expected onlookers = first_turns viewing
turns_at viewing (Turned fault) onlookers = first_turns viewing
turns_at viewing Begun onlookers = turns_in onlookers

abbrev pub turns_by : Showing → Viewing → Stage → OnlookersValue → List Turn
turns_by Last viewing stage onlookers = first_turns viewing
turns_by AsTheyCome viewing stage onlookers = turns_at viewing stage onlookers

abbrev pub turns_of : Option Viewing → Stage → OnlookersValue → List Turn
turns_of None stage onlookers = []
turns_of (Some viewing) stage onlookers = turns_by viewing.showing viewing stage onlookers

-- how far the viewers of a run are at its desk: they are expected, or turned away since the query is refused, or they were
-- all started, and report in threads of their own or look on
pub data Attend (manner : Manner) (viewing : Viewing) : Option Editions → Stage → List Watch → OnlookersValue → Type 0 where
  expected : {desk : Option Editions} → Attend manner viewing desk Expected [] nobody
  turned : {k : Editions} {fault : Refused} → Says (keeper.schema k) [] viewing.query (Err fault) → Attend manner viewing (Some k) (Turned fault) [] nobody
  begun : {k : Editions} {watches : List Watch} → viewing.showing ≡ Last → length watches ≡ viewing.viewers → AllByRecursion (IsStarted manner viewing k) watches →
      Attend manner viewing (Some k) Begun watches nobody
  sent : {k : Editions} {onlookers : OnlookersValue} → viewing.showing ≡ AsTheyCome → AreOnlooking manner viewing k onlookers → Attend manner viewing (Some k) Begun [] onlookers

-- the same of a run that may have none
abbrev pub MayAttend : Manner → Option Viewing → Option Editions → Stage → List Watch → OnlookersValue → Type 0
MayAttend manner None desk stage watches onlookers = ⊤
MayAttend manner (Some viewing) desk stage watches onlookers = Attend manner viewing desk stage watches onlookers

-- and they are expected only where there is no table
pub record HasAttended (manner : Manner) (asked : Option Viewing) (desk : Option Editions) (stage : Stage) (watches : List Watch) (onlookers : OnlookersValue) : Type 0 where
  pub attend : MayAttend manner asked desk stage watches onlookers
  pub declared : HasViewers asked → stage ≡ Expected → desk ≡ None

-- no viewer has shown a later edition than this one
abbrev pub AreLate : ℕ → List Turn → Type 0
AreLate last turns = AllByRecursion (λ turn. turn.least ≤ last) turns

-- the bytes are blocks of viewers that came one after another
pub data ShowAll (givens : Givens) (viewing : Viewing) (before : List (List ℕ)) : List Turn → List Turn → List ℕ → Type 0 where
  none_came : {turns : List Turn} → ShowAll givens viewing before turns turns []
  one_came : {old middle new : List Turn} (bytes rest : List ℕ) → ShowsNext givens viewing before old middle bytes → ShowAll givens viewing before middle new rest →
      ShowAll givens viewing before old new (bytes ++ rest)

-- the same of a run that may have no viewers, or has them last: none came
abbrev pub MayShowIn : Showing → Givens → Viewing → List (List ℕ) → List Turn → List Turn → List ℕ → Type 0
MayShowIn Last givens viewing before old new bytes = (new ≡ old) × (bytes ≡ [])
MayShowIn AsTheyCome givens viewing before old new bytes = ShowAll givens viewing before old new bytes

abbrev pub MayShow : Givens → Option Viewing → List (List ℕ) → List Turn → List Turn → List ℕ → Type 0
MayShow givens None before old new bytes = (new ≡ old) × (bytes ≡ [])
MayShow givens (Some viewing) before old new bytes = MayShowIn viewing.showing givens viewing before old new bytes

-- a run may want a worker: it has viewers, or a line of the script has workers
abbrev pub MayWant : Givens → Option Viewing → List (List ℕ) → Type 0
MayWant givens None script = AsksForWorkers givens script
MayWant givens (Some viewing) script = ⊤

-- how a run ends: with what it writes
abbrev pub EndsRun : {W T : Type 0} → (Cell → ℕ) → (W → Option (List ℕ)) → (W → ℕ) → W → W → Givens → Option Viewing → List ℕ → Result T Ended → Type 0
EndsRun hash taken faults old new givens asked script result =
    Ends taken faults old new (IsWritten hash givens asked script) (MayWant givens asked (lines script)) (HasViewers asked) result

-- what comes after the blocks of the lines of a run that is so finished, where viewers come last: nothing, where it stopped
abbrev pub IsTailAfter : Finish → Givens → Option Viewing → List (List ℕ) → List ℕ → Type 0
IsTailAfter Through givens None before bytes = bytes ≡ []
IsTailAfter Through givens (Some viewing) before bytes = IsTailBehind givens viewing before bytes
IsTailAfter Stopped givens asked before bytes = bytes ≡ []

-- what a run has still to write, of lines that follow those before, where viewers come last
abbrev pub IsRestOfLines : (Cell → ℕ) → Givens → OnRefusal → Option Viewing → List (List ℕ) → List (List ℕ) → Finish → List ℕ → Type 0
IsRestOfLines hash givens on asked before later finish bytes =
    InTwo (AreBlocksUpTo hash givens on before later finish) (IsTailAfter finish givens asked (reverse later ++ before)) bytes

-- what it has still to write, by when viewers' blocks are written; these are still to come
abbrev pub IsRestIn : Showing → (Cell → ℕ) → Givens → OnRefusal → Viewing → List (List ℕ) → List (List ℕ) → List Turn → Finish → List ℕ → Type 0
IsRestIn Last hash givens on viewing before later turns finish bytes = IsRestOfLines hash givens on (Some viewing) before later finish bytes
IsRestIn AsTheyCome hash givens on viewing before later turns finish bytes = AreBlocksBeside hash givens on viewing before later turns finish bytes

abbrev pub IsRest : (Cell → ℕ) → Givens → OnRefusal → Option Viewing → List (List ℕ) → List (List ℕ) → List Turn → Finish → List ℕ → Type 0
IsRest hash givens on None before later turns finish bytes = IsRestOfLines hash givens on None before later finish bytes
IsRest hash givens on (Some viewing) before later turns finish bytes = IsRestIn viewing.showing hash givens on viewing before later turns finish bytes

-- the viewers of a run before it
abbrev pub turns_before : Option Viewing → List Turn
turns_before None = []
turns_before (Some viewing) = first_turns viewing

-- what a run of these lines writes that is so finished
abbrev pub AreWritten : (Cell → ℕ) → Givens → OnRefusal → Option Viewing → List (List ℕ) → Finish → List ℕ → Type 0
AreWritten hash givens on asked script finish bytes = IsRest hash givens on asked [] script (turns_before asked) finish bytes

-- what a strict run writes that is so finished: its last line is the first that is refused; a script beyond a limit is
-- refused as a whole
pub data IsStrict (hash : Cell → ℕ) (givens : Givens) (asked : Option Viewing) (script : List ℕ) : Finish → List ℕ → Type 0 where
  too_much : IsTooMuch givens script → IsStrict hash givens asked script Stopped (refusal givens.manner.form 0 (Line Limit))
  of_lines : {finish : Finish} {bytes : List ℕ} → length script ≤ script_limit → length givens.parts ≤ part_limit →
      AreWritten hash givens Stops asked (lines script) finish bytes → IsStrict hash givens asked script finish bytes

-- what a run writes as a whole that is so finished: one that is not strict goes through
abbrev pub IsRunBy : OnRefusal → (Cell → ℕ) → Givens → Option Viewing → List ℕ → Finish → List ℕ → Type 0
IsRunBy GoesOn hash givens asked script Through bytes = IsWritten hash givens asked script bytes
IsRunBy GoesOn hash givens asked script Stopped bytes = ⊥
IsRunBy Stops hash givens asked script finish bytes = IsStrict hash givens asked script finish bytes

-- how a run ends that writes this, by how it is finished
pub record EndsSo {W : Type 0} (taken : W → Option (List ℕ)) (faults : W → ℕ) (old new : W) (Is : Finish → List ℕ → Type 0) (Asks Views : Type 0) (result : Result Finish Ended) : Type 0 where
  pub ends : Ends taken faults old new (HoweverFinished Is) Asks Views result
  pub wrote : IfOk result (λ finish. Writes (Is finish) (taken old) (taken new))

-- how a run ends, strict or not
abbrev pub EndsBy : {W : Type 0} → OnRefusal → (Cell → ℕ) → (W → Option (List ℕ)) → (W → ℕ) → W → W → Givens → Option Viewing → List ℕ → Result Finish Ended → Type 0
EndsBy on hash taken faults old new givens asked script result =
    EndsSo taken faults old new (IsRunBy on hash givens asked script) (MayWant givens asked (lines script)) (HasViewers asked) result

-- how a run of these lines ends: with their blocks, and what comes behind them
abbrev pub EndsLines : {W : Type 0} → OnRefusal → (Cell → ℕ) → (W → Option (List ℕ)) → (W → ℕ) → W → W → Givens → Option Viewing → List (List ℕ) → Result Finish Ended → Type 0
EndsLines on hash taken faults old new givens asked script result =
    EndsSo taken faults old new (AreWritten hash givens on asked script) (MayWant givens asked script) (HasViewers asked) result

-- how it ends early
abbrev pub EndsEarly : {W : Type 0} → OnRefusal → (Cell → ℕ) → (W → Option (List ℕ)) → (W → ℕ) → W → W → Givens → Option Viewing → List (List ℕ) → Ended → Type 0
EndsEarly on hash taken faults old new givens asked script e =
    Ends {T = Finish} taken faults old new (HoweverFinished (AreWritten hash givens on asked script)) (MayWant givens asked script) (HasViewers asked) (Err e)

-- what a run has still to write once it has gone over the lines: nothing, where it stopped
abbrev pub IsRestAfter : (Cell → ℕ) → Givens → OnRefusal → Option Viewing → List (List ℕ) → List Turn → Finish → List ℕ → Type 0
IsRestAfter hash givens on asked before turns Through bytes = IsRest hash givens on asked before [] turns Through bytes
IsRestAfter hash givens on asked before turns Stopped bytes = bytes ≡ []

-- the lines of a script were gone over: with what was taken and what waits before it, what is still to be written makes what
-- the run writes; a report waits only where a line asked for one, and a run that went through stands behind all lines
pub record GoesOver (old new : Option (List ℕ)) (hash : Cell → ℕ) (givens : Givens) (on : OnRefusal) (asked : Option Viewing) (script : List (List ℕ)) (turns : List Turn) (desk : Option Editions) (waits : Waits) (finish : Finish) : Type 0 where
  pub front : List ℕ
  pub taken : Appends old new front
  pub waiting : List ℕ
  pub awaits : Awaits waits waiting
  pub blocks : (bytes : List ℕ) → IsRestAfter hash givens on asked (reverse script) turns finish bytes → AreWritten hash givens on asked script finish (front ++ (waiting ++ bytes))
  pub late : finish ≡ Through → AreLate (edition givens (reverse script)) turns
  pub asks : 0 < length waits.reports → AsksForWorkers givens script
  pub stands : finish ≡ Through → IsBehind givens (reverse script) desk

-- the same with viewers beside them
pub record GoesOverBeside {W : Type 0} (taken : W → Option (List ℕ)) (faults : W → ℕ) (old new : W) (hash : Cell → ℕ) (givens : Givens) (on : OnRefusal) (asked : Option Viewing) (script : List (List ℕ))
    (desk : Option Editions) (waits : Waits) (stage : Stage) (watches : List Watch) (onlookers : OnlookersValue) (finish : Finish) : Type 0 where
  pub over : GoesOver (taken old) (taken new) hash givens on asked script (turns_of asked stage onlookers) desk waits finish
  pub attended : HasAttended givens.manner asked desk stage watches onlookers
  pub sound : faults new ≡ faults old

-- what is written for a script beyond a limit
abbrev pub too_much_text : Form → Option Viewing → List ℕ
too_much_text form None = refusal form 0 (Line Limit)
too_much_text form (Some viewing) = refusal form 0 (Line Limit) ++ viewers_refused form NoTable

-- the same of a run that is strict or not: a strict one writes nothing behind a refusal
abbrev pub too_much_by : Form → OnRefusal → Option Viewing → List ℕ
too_much_by form GoesOn asked = too_much_text form asked
too_much_by form Stops asked = refusal form 0 (Line Limit)
