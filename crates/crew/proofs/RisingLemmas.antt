-- The pieces that a seat drew rise, and are pieces of the deal.
use Rattle.std.proofs.Common.{ℕ, ◌+◌, ◌<◌, ◌≤◌, Bool, true, false, cond, eqb, List, [], ◌∷◌, length, take, arith}
use Rattle.std.proofs.lemmas.List.{length-take}
use Rattle.std.specs.List.{AllByRecursion}
use Rattle.crew.specs.Draws.{PlacesRise, drawn, places_from}

-- a place and those that follow it, where it is kept
all_if : (P : ℕ → Type 0) (kept : Bool) (place : ℕ) (places : List ℕ) → P place → AllByRecursion P places → AllByRecursion P (cond kept (place ∷ places) places)
all_if P true place places here all = (here, all)
all_if P false place places here all = all

rising_if : (kept : Bool) (place : ℕ) (places : List ℕ) → AllByRecursion (λ m. place < m) places → PlacesRise places → PlacesRise (cond kept (place ∷ places) places)
rising_if true place places above rising = (above, rising)
rising_if false place places above rising = rising

-- places are counted from the first on
above : (m place seat : ℕ) (draws : List ℕ) → m < place → AllByRecursion (λ k. m < k) (places_from place seat draws)
above m place seat [] less = tt
above m place seat (by ∷ draws) less = all_if (λ k. m < k) (eqb seat by) place (places_from (place + 1) seat draws) less (above m (place + 1) seat draws (omega arith))

pub places_rise : (place seat : ℕ) (draws : List ℕ) → PlacesRise (places_from place seat draws)
places_rise place seat [] = tt
places_rise place seat (by ∷ draws) = rising_if (eqb seat by) place (places_from (place + 1) seat draws) (above place (place + 1) seat draws (omega arith)) (places_rise (place + 1) seat draws)

below : (n place seat : ℕ) (draws : List ℕ) → place + length draws ≤ n → AllByRecursion (λ k. k < n) (places_from place seat draws)
below n place seat [] fits = tt
below n place seat (by ∷ draws) fits = all_if (λ k. k < n) (eqb seat by) place (places_from (place + 1) seat draws) (omega arith) (below n (place + 1) seat draws (omega arith))

pub drawn_rises : (pieces seat : ℕ) (history : List ℕ) → PlacesRise (drawn pieces seat history)
drawn_rises pieces seat history = places_rise 0 seat (take pieces history)

pub drawn_is_below : (pieces seat : ℕ) (history : List ℕ) → AllByRecursion (λ piece. piece < pieces) (drawn pieces seat history)
drawn_is_below pieces seat history = below pieces 0 seat (take pieces history) (omega (arith, length-take pieces history))
