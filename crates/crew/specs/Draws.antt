-- Draws of numbered pieces. A history is the list of the seats that drew, each by its number, in the order of their
-- draws. Pieces and places in a history are counted from 0.
use Rattle.std.specs.Prelude.{◌≡◌, ◌<◌, ⊤, ℕ, ◌+◌, eqb, ltb, cond, List, [], ◌∷◌, ◌++◌, take, Option, Some, None, false}
use Rattle.std.specs.List.{list_any, AllByRecursion}

-- what a draw at the place gets: the piece of that number, or none where there are no more
abbrev pub draw_at : ℕ → ℕ → Option ℕ
draw_at pieces place = cond (ltb place pieces) (Some place) None

-- the places of the seat in a list of draws, where the first is counted as `place`
abbrev pub places_from : ℕ → ℕ → List ℕ → List ℕ
places_from place seat [] = []
places_from place seat (by ∷ draws) = cond (eqb seat by) (place ∷ places_from (place + 1) seat draws) (places_from (place + 1) seat draws)

-- the pieces that the seat drew: its places in the history that are the number of a piece
abbrev pub drawn : ℕ → ℕ → List ℕ → List ℕ
drawn pieces seat history = places_from 0 seat (take pieces history)

-- the seat made none of the draws
abbrev pub IsAbsent : ℕ → List ℕ → Type 0
IsAbsent seat draws = list_any (eqb seat) draws ≡ false

-- the history begins with all that the seat has seen, and has no other entry of the seat
pub record BeginsWith (history : List ℕ) (seat : ℕ) (seen : List ℕ) : Type 0 where
  pub rest : List ℕ
  pub is : history ≡ seen ++ rest
  pub no_other : IsAbsent seat rest

-- each number is below all that follow it
abbrev pub PlacesRise : List ℕ → Type 0
PlacesRise [] = ⊤
PlacesRise (n ∷ ns) = AllByRecursion (λ m. n < m) ns × PlacesRise ns
