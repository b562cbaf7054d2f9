-- Tasks: what is made of places.
use Rattle.std.specs.Prelude.{◌<◌, ℕ, List, [], ◌∷◌, ◌++◌}
use Rattle.std.specs.List.{AllByRecursion}
use Rattle.crew.specs.Draws.{PlacesRise}

-- a share of the places below a number: some of them, rising
pub record IsShare (count : ℕ) (places : List ℕ) : Type 0 where
  pub rising : PlacesRise places
  pub below : AllByRecursion (λ place. place < count) places

-- it was made of some places, which are a share with this place behind them
pub record MayTake {Made : Type 0} (makes : List ℕ → Made → Type 0) (count : ℕ) (made : Made) (place : ℕ) : Type 0 where
  pub places : List ℕ
  pub made_of : makes places made
  pub share : IsShare count (places ++ place ∷ [])
