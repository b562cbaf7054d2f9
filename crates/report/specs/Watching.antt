-- Viewers that report in threads of their own, and what they have reported.
use Rattle.std.specs.Prelude.{◌≡◌, ◌≤◌, ◌+◌, ℕ, suc, List, [], ◌∷◌, ◌++◌, Some, Result, IfOk, length, nat_lt, if◌then◌else◌}
use Rattle.std.specs.List.{slice_get}
use mathlib.Core.List.{IsPrefix}
use Rattle.board.specs.Editions.{Edition, Editions, History, Known}
use Rattle.board.specs.Editions as keeper
use Rattle.cells.specs.Tables.{Rows}
use Rattle.report.specs.declared.question.Question.{Question}
use Rattle.report.specs.Waiting.{IsReportText}
use Rattle.report.specs.declared.want.Want.{Want}

-- a report of a viewer: the number of its edition, and its text
pub record Sight : Type 0 where
  pub edition : ℕ
  pub text : List ℕ

-- it is the report on the edition of its number in the history
pub record IsShot (history : History) (question : Question) (shot : Sight) : Type 0 where
  pub rows : Rows
  pub at : slice_get history shot.edition ≡ Some rows
  pub is : IsReportText rows question shot.text

-- such reports one after another, whose editions never fall, from the least on
pub data AreShots (history : History) (question : Question) : ℕ → List Sight → Type 0 where
  no_shot : {least : ℕ} → AreShots history question least []
  shot_first : {least : ℕ} {shot : Sight} {more : List Sight} → least ≤ shot.edition → IsShot history question shot → AreShots history question shot.edition more →
      AreShots history question least (shot ∷ more)

-- so many such reports, and then one on the last edition
pub data GoUpTo (history : History) (question : Question) (last : ℕ) : ℕ → ℕ → List Sight → Type 0 where
  at_last : {least : ℕ} {shot : Sight} → least ≤ last → shot.edition ≡ last → IsShot history question shot → GoUpTo history question last least 0 (shot ∷ [])
  before_last : {least count : ℕ} {shot : Sight} {more : List Sight} → least ≤ shot.edition → IsShot history question shot → GoUpTo history question last shot.edition count more →
      GoUpTo history question last least (suc count) (shot ∷ more)

-- a viewer with the question that it answers, and the reports that it made
pub record Watching : Type 0 where
  pub viewer : Known
  pub question : Question
  pub shots : List Sight

-- a viewer whose thread was started: its number, as it was then, and how many reports it is to make
pub record Watch : Type 0 where
  pub number : ℕ
  pub before : Watching
  pub count : ℕ

-- a viewer before its first report
abbrev pub unwatched : Known → Question → Watching
unwatched viewer question = record { viewer = viewer; question = question; shots = [] }

-- a viewer of this number that is to make so many reports of a question
abbrev pub watch_from : ℕ → Known → Question → ℕ → Watch
watch_from number viewer question count = record { number = number; before = unwatched viewer question; count = count }

-- how many viewers were begun, and those of them that are still here
pub record AudienceValue : Type 0 where
  pub begun : ℕ
  pub watches : List Watch

-- one viewer more was begun, of the next number
abbrev pub with_watch : AudienceValue → Known → Question → ℕ → AudienceValue
with_watch a viewer question count = record { begun = a.begun + 1; watches = a.watches ++ watch_from (a.begun + 1) viewer question count ∷ [] }

-- a viewer was not begun, and the next number is spent all the same
abbrev pub without_watch : AudienceValue → AudienceValue
without_watch a = record { begun = a.begun + 1; watches = a.watches }

-- it made so many reports more: it has seen a history that begins with all that it had seen, and all else stays
pub record HasWatched (before : Watching) (count : ℕ) (after : Watching) : Type 0 where
  pub seen : IsPrefix before.viewer.history after.viewer.history
  pub board : after.viewer.board ≡ before.viewer.board
  pub schema : after.viewer.schema ≡ before.viewer.schema
  pub question : after.question ≡ before.question
  pub many : length after.shots ≡ length before.shots + count

-- the first of those that were started came back
pub record ComesBack (old new : List Watch) (result : Result Watching Want) : Type 0 where
  pub watch : Watch
  pub first : old ≡ watch ∷ new
  pub watched : IfOk result (HasWatched watch.before watch.count)

-- the viewer is one of the keeper's board and table
pub record IsOf (k : Editions) (viewer : Known) : Type 0 where
  pub board : viewer.board ≡ keeper.board k
  pub schema : viewer.schema ≡ keeper.schema k

-- it is the last edition of the keeper
pub record IsLastEdition (k : Editions) (edition : Edition) : Type 0 where
  pub number : edition.number ≡ keeper.edition k
  pub rows : edition.rows ≡ keeper.published k
  pub schema : edition.schema ≡ keeper.schema k

-- it is the report on that edition
pub record IsLastShot (k : Editions) (question : Question) (shot : Sight) : Type 0 where
  pub number : shot.edition ≡ keeper.edition k
  pub long : length (keeper.history k) ≡ keeper.edition k + 1
  pub is : IsShot (keeper.history k) question shot

-- the report on the last edition, in place of one on an edition above it
abbrev pub up_to : Sight → Sight → Sight
up_to last shot = if nat_lt last.edition shot.edition then last else shot
