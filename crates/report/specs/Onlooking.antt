-- Viewers that show each report as it is made.
use Rattle.std.specs.Prelude.{◌≡◌, ◌≤◌, ◌+◌, ◌-◌, ℕ, zero, suc, List, ◌∷◌, [], ◌++◌, Result, IfOk, length}
use Rattle.board.specs.Editions.{Editions, History, Known, Looks}
use Rattle.board.specs.Editions as keeper
use Rattle.report.specs.declared.question.Question.{Question}
use Rattle.report.specs.declared.want.Want.{Want}
use Rattle.report.specs.Watching.{IsShot, Sight}

-- such a viewer, by its number: what it answers, how many reports it makes before its last one, and the edition that it
-- showed last
pub record Onlooking : Type 0 where
  pub number : ℕ
  pub viewer : Known
  pub question : Question
  pub left : ℕ
  pub least : ℕ

-- one that has made a report, which it did not show yet
pub record Glanced : Type 0 where
  pub onlooker : Onlooking
  pub shot : Sight

-- before its first report
abbrev pub onlooking : ℕ → Known → Question → ℕ → Onlooking
onlooking number viewer question left = record { number = number; viewer = viewer; question = question; left = left; least = 0 }

-- it has looked once more, and the report is on the last edition that it saw; all else stays
pub record HasGlanced (before : Onlooking) (glance : Glanced) : Type 0 where
  pub looks : Looks before.viewer glance.onlooker.viewer
  pub long : length glance.onlooker.viewer.history ≡ glance.shot.edition + 1
  pub number : glance.onlooker.number ≡ before.number
  pub question : glance.onlooker.question ≡ before.question
  pub left : glance.onlooker.left ≡ before.left
  pub least : glance.onlooker.least ≡ before.least

-- what is shown in place of a report is one on an edition of the keeper, and on none before the report's that the keeper has
pub record IsUpToNow (k : Editions) (question : Question) (shot shown : Sight) : Type 0 where
  pub is : IsShot (keeper.history k) question shown
  pub within : shown.edition ≤ keeper.edition k
  pub late : (least : ℕ) → least ≤ shot.edition → least ≤ keeper.edition k → least ≤ shown.edition

-- its report is shown, and it is to make one fewer; it knows the edition that it showed
pub record Shows (k : Editions) (glance : Glanced) (after : Onlooking) (shown : Sight) : Type 0 where
  pub shot : IsUpToNow k glance.onlooker.question glance.shot shown
  pub number : after.number ≡ glance.onlooker.number
  pub board : after.viewer.board ≡ glance.onlooker.viewer.board
  pub schema : after.viewer.schema ≡ glance.onlooker.viewer.schema
  pub question : after.question ≡ glance.onlooker.question
  pub left : after.left ≡ glance.onlooker.left - 1
  pub least : after.least ≡ shown.edition
  pub knows : after.least + 1 ≤ length after.viewer.history

-- those whose threads make a report, and those that have their last one alone to make
pub record OnlookersValue : Type 0 where
  pub going : List Onlooking
  pub waiting : List Onlooking

-- one more goes, or waits where its last report alone is left
abbrev pub sent_by : OnlookersValue → Onlooking → ℕ → OnlookersValue
sent_by o onlooker zero = record { going = o.going; waiting = o.waiting ++ onlooker ∷ [] }
sent_by o onlooker (suc left) = record { going = o.going ++ onlooker ∷ []; waiting = o.waiting }

abbrev pub sent : OnlookersValue → Onlooking → OnlookersValue
sent o onlooker = sent_by o onlooker onlooker.left

-- the first of those that go comes back
pub record Returns (old new : OnlookersValue) (result : Result Glanced Want) : Type 0 where
  pub onlooker : Onlooking
  pub first : old.going ≡ onlooker ∷ new.going
  pub waiting : new.waiting ≡ old.waiting
  pub glanced : IfOk result (HasGlanced onlooker)

-- the first of those that wait is taken out
pub record TakesOut (old new : OnlookersValue) (onlooker : Onlooking) : Type 0 where
  pub first : old.waiting ≡ onlooker ∷ new.waiting
  pub going : new.going ≡ old.going
