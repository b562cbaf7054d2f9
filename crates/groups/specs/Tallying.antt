-- Accumulators of numbered cells.
use Rattle.std.specs.Prelude.{◌≡◌, ℕ, ◌<◌, ◌==◌, Bool, true, false, List, [], ◌∷◌, length, slice_index_or}
use Rattle.aggs.specs.Accs.{acc_of}
use Rattle.aggs.specs.declared.acc.Acc.{Acc}
use Rattle.aggs.specs.declared.acc.Kind.{Kind}
use Rattle.cells.specs.declared.cell.Cell.{Cell}

abbrev pub keep_if : {X : Type 0} → Bool → X → List X → List X
keep_if true x xs = x ∷ xs
keep_if false x xs = xs

-- those of some things whose numbers pass the test, in their order
abbrev pub passing : {X : Type 0} → (ℕ → Bool) → List ℕ → List X → List X
passing p [] xs = []
passing p (k ∷ numbers) [] = []
passing p (k ∷ numbers) (x ∷ xs) = keep_if (p k) x (passing p numbers xs)

-- those that have this number
abbrev pub those_of : {X : Type 0} → ℕ → List ℕ → List X → List X
those_of n numbers xs = passing (λ k. k == n) numbers xs

-- accumulators of one type, one for each number below the count, of the cells that have it
pub record AreStepped {A : Type 0} (of : List Cell → A) (count : ℕ) (numbers : List ℕ) (cells : List Cell) (accs : List A) : Type 0 where
  pub counted : length accs ≡ count
  pub each : (n : ℕ) → n < count → (d : A) → slice_index_or accs n d ≡ of (those_of n numbers cells)

-- the same of accumulators of any kind
pub record AreTallied {H : Type 0} (kind : Kind) (count : ℕ) (numbers : List ℕ) (cells : List Cell) (accs : List (Acc H)) : Type 0 where
  pub counted : length accs ≡ count
  pub each : (n : ℕ) → n < count → (d : Acc H) → slice_index_or accs n d ≡ acc_of kind (those_of n numbers cells)
