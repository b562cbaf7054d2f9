-- The lines of the script that asks, piece by piece.
use Rattle.std.proofs.Common.{ap, sym, ◌∙◌, ◌≡◌, ◌+◌, ◌++◌, ℕ, zero, suc, List, [], ◌∷◌, drop, add-one, arith, append_assoc}
use Rattle.std.proofs.lemmas.Grind.{flat_map-append}
use Rattle.std.proofs.lemmas.List.{append-nil}
use Rattle.std.proofs.lemmas.List.Concat.{flat_map-cons}
use Rattle.std.specs.List.{flat_map, range_with_len}
use Rattle.cells.specs.declared.schema.Column.{Column}
use Rattle.questions.specs.Questions.{columns_text}

-- the columns that are left stand behind those that were written
pub record Written (start : List ℕ) (key : ℕ) (columns : List Column) (place : ℕ) (text : List ℕ) : Type 0 where
  pub whole : text ++ columns_text key place (drop place columns) ≡ start ++ columns_text key 0 columns

-- ---- numbers of parts

range_more : (a n : ℕ) → range_with_len a (suc n) ≡ range_with_len a n ++ (a + n) ∷ []
range_more a zero = ap (λ k. k ∷ []) (omega arith)
range_more a (suc n) = ap (λ rest. a ∷ rest) (range_more (a + 1) n ∙ ap (λ k. range_with_len (a + 1) n ++ k ∷ []) (omega arith))

-- one number more
pub numbers_more : (start text more : List ℕ) (f : ℕ → List ℕ) (n number : ℕ) → text ≡ start ++ flat_map f (range_with_len 1 n) → number ≡ n + 1 → more ≡ text ++ f number
    → more ≡ start ++ flat_map f (range_with_len 1 (n + 1))
numbers_more start text more f n number so_far is added =
    added
    ∙ ap (λ front. front ++ f number) so_far
    ∙ append_assoc start (flat_map f (range_with_len 1 n)) (f number)
    ∙ ap (λ rest. start ++ rest) (sym (ap (flat_map f) (rw add-one (range_more 1 n)) ∙ flat_map-append f (range_with_len 1 n) ((1 + n) ∷ [])
    ∙ ap (λ last. flat_map f (range_with_len 1 n) ++ last) (flat_map-cons f (1 + n) [] ∙ append-nil (f (1 + n)) ∙ ap f (omega (arith, is)))))
