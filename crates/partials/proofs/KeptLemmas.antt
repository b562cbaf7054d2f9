-- A cell, or none, as a list.
use Rattle.std.proofs.Common.{◌≤◌, ◌≡◌, ◌+◌, ◌++◌, ◌∷◌, ◌∙◌, [], List, Option, Some, None, ap, arith, length, refl, sym}
use Rattle.std.specs.Prelude.{MatchOption, ℕ}
use Rattle.std.specs.Option.{option_to_list}

pub few : {A : Type 0} (o : Option A) → length (option_to_list o) ≤ 1
few None = omega arith
few (Some x) = omega arith

-- what is popped of it
pub popped : {A : Type 0} (all rest : List A) (o cell : Option A) (n m : ℕ) → all ≡ rest ++ option_to_list o → all ≡ option_to_list cell → length rest + length (option_to_list o) ≡ length all →
    n ≡ length all → MatchOption o ((n ≡ 0) × (m ≡ 0)) (λ _. m + 1 ≡ n) → o ≡ cell
popped all rest None None n m cut is long count cases = refl
popped all rest None (Some c) n m cut is long count cases = absurd (omega (arith, count, cases.0, ap length is))
popped all rest (Some x) None n m cut is long count cases = absurd (omega (arith, long, ap length is))
popped all [] (Some x) (Some c) n m cut is long count cases = let both = sym cut ∙ is in cc
popped all (y ∷ rest) (Some x) (Some c) n m cut is long count cases = absurd (omega (arith, long, ap length is))
