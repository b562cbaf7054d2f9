-- What files hold, where that is told.
use Rattle.std.specs.Prelude.{◌≡◌, ℕ, List, [], ◌∷◌, ◌++◌, ⊤, Option, IfSome}
use Rattle.std.specs.List.{AllByRecursion}

-- these are the bytes that are told, or none are told
abbrev pub Tells : Option (List ℕ) → List ℕ → Type 0
Tells told bytes = IfSome told (λ held. bytes ≡ held)

-- these are the bytes of the files of these names, in their order, as far as they are told
abbrev pub AreTold : (List ℕ → Option (List ℕ)) → List (List ℕ) → List (List ℕ) → Type 0
AreTold file [] [] = ⊤
AreTold file [] (bytes ∷ more) = ⊥
AreTold file (name ∷ names) [] = ⊥
AreTold file (name ∷ names) (bytes ∷ more) = Tells (file name) bytes × AreTold file names more

-- the file of this name could not be read, and is the first of these: those before it were read
pub record IsFirstUnread (was_read was_refused : List ℕ → Type 0) (names : List (List ℕ)) (name : List ℕ) : Type 0 where
  pub before : List (List ℕ)
  pub later : List (List ℕ)
  pub parted : names ≡ before ++ name ∷ later
  pub read : AllByRecursion was_read before
  pub refused : was_refused name
