-- What a visitor is that was lent entries.
use Rattle.std.specs.Prelude.{◌≡◌, List, [], ◌∷◌, ◌++◌}

-- it took these entries, one after another
abbrev pub TakesAll : {S K V : Type 0} → (S → K → V → S → Type 0) → S → List (K × V) → S → Type 0
TakesAll Takes old [] new = new ≡ old
TakesAll {S} Takes old (e ∷ es) new = (mid : S) × Takes old e.0 e.1 mid × TakesAll Takes mid es new

-- each entry may be lent, once those before it were taken
pub record MayTakeAll {S K V : Type 0} (Asks : S → K → V → Type 0) (Takes : S → K → V → S → Type 0) (old : S) (entries : List (K × V)) : Type 0 where
  pub asked : (before after : List (K × V)) (e : K × V) (mid : S) → entries ≡ before ++ e ∷ after → TakesAll Takes old before mid → Asks mid e.0 e.1
