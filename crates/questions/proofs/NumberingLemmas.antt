-- The name of a column that counts, which is made longer until no column has it.
use Rattle.std.proofs.Common.{◌≡◌, ◌<◌, ◌≤◌, ◌+◌, ◌++◌, ◌∷◌, ◌∙◌, ℕ, List, [], ap, arith, codes, inl, inr, length, suc, true}
use Rattle.std.proofs.lemmas.Bool.{cases_Bool}
use Rattle.std.proofs.lemmas.Bool.Decides.{nat_tests}
use Rattle.std.proofs.lemmas.Slice.Eq.{bytes_eq-Decides}
use Rattle.std.specs.Prelude.{bytes_eq, nat_lt}
use Rattle.questions.specs.Options.{is_one_of}
use Rattle.questions.specs.Proposals.{numbering}

-- all shorter ones are taken
pub record IsNumbering (words : List (List ℕ)) (name : List ℕ) : Type 0 where
  pub count : ℕ
  pub is : name ≡ numbering count
  pub taken : (fewer : ℕ) → fewer < count → is_one_of (numbering fewer) words ≡ true

pub longer : (words : List (List ℕ)) (name new : List ℕ) → IsNumbering words name → is_one_of name words ≡ true → new ≡ name ++ codes "_" → IsNumbering words new
longer words name new so_far had is = record {
  count = suc so_far.count;
  is = is ∙ ap (λ front. front ++ codes "_") so_far.is;
  taken = λ fewer less. elim (cases_Bool (nat_lt fewer so_far.count)) [
    | inl small ↦ so_far.taken fewer (grind (arith, nat_tests))
    | inr large ↦ let same : fewer ≡ so_far.count = grind (arith, nat_tests) in rw (same, ← so_far.is) had
  ];
}

-- no word is longer than all of them together
pub total : List (List ℕ) → ℕ
total [] = 0
total (word ∷ words) = length word + total words

pub within : (name : List ℕ) (words : List (List ℕ)) → is_one_of name words ≡ true → length name ≤ total words
unfolding total
within name [] had = absurd cc
within name (word ∷ words) had = elim (cases_Bool (bytes_eq name word)) [
  | inl same ↦ let long = ap length ((bytes_eq-Decides name word).0 same) in omega (arith, long)
  | inr other ↦ let later = within name words (rw other at had) in omega (arith, later)
]
