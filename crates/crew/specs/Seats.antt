-- A deal and its seats, as contracts see them.
use Rattle.std.specs.Prelude.{◌≡◌, ℕ, Bool, List, [], ◌∷◌, ◌++◌, length, map, ltb, All, Option, None, MatchBool}
use Rattle.std.specs.List.{range_with_len}
use Rattle.atomic_table.specs.Seated.{TableId}
use Rattle.crew.specs.declared.law.Sight.{Sight}
use Rattle.crew.specs.Draws.{BeginsWith, draw_at, drawn}
use Rattle.crew.specs.Law.{sight}

-- a deal: which table counts its draws, and how many pieces and seats it has
pub record DealValue : Type 0 where
  pub table : TableId
  pub pieces : ℕ
  pub seats : ℕ

-- a seat: of which deal it is, its number there, and the draws that it has seen
pub record SeatValue : Type 0 where
  pub table : TableId
  pub pieces : ℕ
  pub number : ℕ
  pub seen : List ℕ

-- the seat is one of the deal
pub record IsSeatOf (deal : DealValue) (seat : SeatValue) : Type 0 where
  pub table : seat.table ≡ deal.table
  pub pieces : seat.pieces ≡ deal.pieces

abbrev pub number_of : SeatValue → ℕ
number_of seat = seat.number

-- the seat, as the rule of the word sees it
abbrev pub sight_of : SeatValue → Sight
sight_of seat = sight seat.number seat.seen

-- the pieces that the seat drew
abbrev pub drawn_by : SeatValue → List ℕ
drawn_by seat = drawn seat.pieces seat.number seat.seen

-- the seat has seen more draws than there are pieces: its own last draw got none
abbrev pub is_finished : SeatValue → Bool
is_finished seat = ltb seat.pieces (length seat.seen)

-- the seat, once it has seen this history
abbrev pub having_seen : List ℕ → SeatValue → SeatValue
having_seen history seat = record { table = seat.table; pieces = seat.pieces; number = seat.number; seen = history }

-- one draw: the seat is put behind a history that begins with what it had seen and has no other entry of it, gets what
-- a draw at that place gets, and has then seen the whole
pub record DrawsOnce (before : SeatValue) (answer : Option ℕ) (after : SeatValue) : Type 0 where
  pub history : List ℕ
  pub begins : BeginsWith history before.number before.seen
  pub gets : answer ≡ draw_at before.pieces (length history)
  pub sees : after ≡ having_seen (history ++ before.number ∷ []) before

-- a seat that is finished draws no more and gets none; any other draws once
abbrev pub Draws : SeatValue → Option ℕ → SeatValue → Type 0
Draws before answer after = MatchBool (is_finished before) ((answer ≡ None) × (after ≡ before)) (DrawsOnce before answer after)

abbrev pub new_seat : DealValue → ℕ → SeatValue
new_seat deal number = record { table = deal.table; pieces = deal.pieces; number = number; seen = [] }

-- the seats of a deal before any draw, numbered from 0
abbrev pub new_seats : DealValue → List SeatValue
new_seats deal = map (new_seat deal) (range_with_len 0 deal.seats)

-- the history begins with what each of the seats has seen
abbrev pub BeginsWithAll : List ℕ → List SeatValue → Type 0
BeginsWithAll history seats = All (λ seat. BeginsWith history seat.number seat.seen) seats
