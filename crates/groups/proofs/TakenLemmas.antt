-- A list that is made of another one, element by element.
use Rattle.std.proofs.Common.{◌≡◌, ℕ, ◌+◌, ◌<◌, ◌≤◌, List, [], ◌∷◌, ◌++◌, get_or, length, map, take, sym, ap, ap₂, ◌∙◌}
use Rattle.std.proofs.lemmas.List.{map_more, take_all}

module _ {X Y : Type 0} (f : X → Y) (xs : List X) (k : ℕ) where
  pub map_taken : (x : X) → k < length xs → x ≡ get_or xs k x → (found new : List Y) (y : Y) → found ≡ map f (take k xs) → y ≡ f x → new ≡ found ++ y ∷ [] → new ≡ map f (take (k + 1) xs)
  map_taken x within is found new y made one both = both ∙ ap₂ (λ l z. l ++ z ∷ []) made (one ∙ ap f is) ∙ sym (map_more f xs k x within)

  pub map_all : (found : List Y) → length xs ≤ k → found ≡ map f (take k xs) → found ≡ map f xs
  map_all found all made = made ∙ ap (map f) (take_all k xs all)
