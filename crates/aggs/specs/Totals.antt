-- What contracts see of a sum.
use Rattle.std.specs.Prelude.{ℤ, ℕ}

-- the sum of some integers, and how many they are
pub record Summed : Type 0 where
  pub sum : ℤ
  pub integers : ℕ
