-- What workers hand back, and what comes back of all seats.
use Rattle.std.specs.Prelude.{◌≡◌, ⊤, ℕ, ◌+◌, true, List, [], ◌∷◌, length, map, Result, IfOk, OnOk}
use Rattle.cells.specs.declared.refused.Refused.{Refused}
use Rattle.crew.specs.Seats.{DealValue, SeatValue, IsSeatOf, drawn_by, is_finished}
use Rattle.crew.specs.declared.worker.Worked.{Worked}

-- it holds of each element with its number, where the first is counted as `number`
abbrev pub AllNumbered : {A : Type 0} → (ℕ → A → Type 0) → ℕ → List A → Type 0
AllNumbered holds number [] = ⊤
AllNumbered holds number (x ∷ xs) = holds number x × AllNumbered holds (number + 1) xs

-- the seat of that number, finished, and where something was given it is given for the pieces that the seat drew
pub record IsWorked {Made : Type 0} (deal : DealValue) (makes : List ℕ → Made → Type 0) (number : ℕ) (worked : Worked Made) : Type 0 where
  pub ours : IsSeatOf deal worked.seat
  pub same : worked.seat.number ≡ number
  pub finished : is_finished worked.seat ≡ true
  pub given : IfOk worked.given (makes (drawn_by worked.seat))

-- the seat of that number, and where something was given the seat is finished, and it is given for the pieces that it drew
pub record IsBack {Made : Type 0} (deal : DealValue) (makes : List ℕ → Made → Type 0) (number : ℕ) (back : Worked Made) : Type 0 where
  pub ours : IsSeatOf deal back.seat
  pub same : back.seat.number ≡ number
  pub finished : OnOk back.given (is_finished back.seat ≡ true)
  pub given : IfOk back.given (makes (drawn_by back.seat))

abbrev pub seat_of : {Made : Type 0} → Worked Made → SeatValue
seat_of back = back.seat

abbrev pub given_of : {Made : Type 0} → Worked Made → Result Made Refused
given_of back = back.given

-- these seats are all those of the deal, in the order of their numbers, and this is what was given at each
pub record AreBack {Made : Type 0} (deal : DealValue) (makes : List ℕ → Made → Type 0) (seats : List SeatValue) (given : List (Result Made Refused)) : Type 0 where
  pub all : List (Worked Made)
  pub seats_are : seats ≡ map seat_of all
  pub given_are : given ≡ map given_of all
  pub many : length all ≡ deal.seats
  pub each : AllNumbered (IsBack deal makes) 0 all
