-- Lists without repetition: of equal elements the first stays.
use Rattle.std.specs.Prelude.{Bool, List, [], ◌∷◌, ◌++◌, if◌then◌else◌}
use Rattle.std.specs.List.{fold, list_any}

-- a list with one more behind it, unless an equal one is there
abbrev pub with_new : {X : Type 0} → (X → X → Bool) → List X → X → List X
with_new equal found x = if list_any (λ y. equal y x) found then found else found ++ x ∷ []

abbrev pub different : {X : Type 0} → (X → X → Bool) → List X → List X
different equal xs = fold (with_new equal) [] xs
