-- The ends of the board between two calls: a viewer's, what was told, and the keeper's.
use Rattle.std.specs.Prelude.{◌≡◌, ℕ, ◌+◌, ◌-◌, ◌*◌, ◌<◌, List, [], ◌∷◌, Option}
use mathlib.Core.List.{IsPrefix}
use Rattle.atomic_table.specs.declared.badge.Badge.{Badge}
use Rattle.atomic_table.specs.declared.shared.Seat.{Seat}
use Rattle.board.specs.Editions.{BeginWithAll, Edition, IsHistory}
use Rattle.board.specs.Law.{keeping, nobody, progress_of}
use Rattle.board.specs.declared.law.Progress.{Progress}
use Rattle.board.specs.declared.law.View.{View}

abbrev pub first_view : List View → View
first_view [] = nobody
first_view (v ∷ vs) = v

-- what an end knows, by its badge
abbrev pub known : Badge View → View
known b = first_view b.views

-- afterwards a history was seen that begins with all that was seen and told before
pub record HasLooked (v w : View) : Type 0 where
  pub seen : IsPrefix v.seen w.seen
  pub learnt : BeginWithAll v.told w.seen
  pub begun : IsHistory w.seen
  pub told : w.told ≡ []
  pub schema : w.schema ≡ v.schema

abbrev pub progress_at : Seat (Option Edition) View → Progress
progress_at s = progress_of s.me.0.role

-- the seat is the keeper's, and has no slot: the boxes up to `done` show the last edition
abbrev pub IsAt : ℕ → Seat (Option Edition) View → Type 0
IsAt done s = s.me ≡ (keeping (record (progress_at s) { done = done; hand = 0 }) s.me.0.schema s.me.0.seen, [])

-- the seat is the keeper's, and has the hidden side of a box, which shows the other side; the boxes before show the last
-- edition
pub record HasSide (word side : ℕ) (s : Seat (Option Edition) View) : Type 0 where
  pub low : side < 2
  pub found : Option Edition
  pub at : s.me ≡ (keeping (record (progress_at s) { done = word - 1; hand = word; side = side }) s.me.0.schema s.me.0.seen, (2 * word + (1 - side), found) ∷ [])

-- the keeper takes the hidden side of a box, and has seen as much
pub record TakesSide (word side : ℕ) (s t : Seat (Option Edition) View) : Type 0 where
  pub same : t.table_id ≡ s.table_id
  pub has : HasSide word side t
  pub seen : t.me.0.seen ≡ s.me.0.seen
  pub schema : t.me.0.schema ≡ s.me.0.schema
  pub made : (progress_at t).made ≡ (progress_at s).made

-- the keeper goes on: its boxes up to `done` show the last edition
pub record GoesOn (done : ℕ) (s t : Seat (Option Edition) View) : Type 0 where
  pub same : t.table_id ≡ s.table_id
  pub at : IsAt done t
  pub seen : t.me.0.seen ≡ s.me.0.seen
  pub schema : t.me.0.schema ≡ s.me.0.schema
  pub made : (progress_at t).made ≡ (progress_at s).made
