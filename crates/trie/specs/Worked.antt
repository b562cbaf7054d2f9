-- A worked example of pieces: the keys 1, 33, 2 and 17, each its own hash, in the order of their digits. The first two share
-- their low digit.
use Rattle.std.specs.Prelude.{ℕ, List, [], ◌∷◌, map}
use Rattle.std.specs.Map.{keys_of}
use Rattle.trie.specs.Cuts.{cut}

-- the keys of each piece
abbrev pub pieces : ℕ → ℕ → List (List ℕ)
pieces depth small = map keys_of (cut (λ k. k) depth small (map (λ k. (k, k)) (1 ∷ 33 ∷ 2 ∷ 17 ∷ [])))
