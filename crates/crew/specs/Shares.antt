-- Places shared out among workers.
use Rattle.std.specs.Prelude.{ℕ, List, IsPermutation}
use Rattle.std.specs.List.{AllByRecursion, AllZip, concat, range_with_len}
use Rattle.crew.specs.Tasks.{IsShare}

-- The places below the number were shared out: there are shares that together are all of them, each once, and each
-- thing is made of the share in its place
pub record AreShared {Made : Type 0} (makes : List ℕ → Made → Type 0) (count : ℕ) (made : List Made) : Type 0 where
  pub shares : List (List ℕ)
  pub are_shares : AllByRecursion (IsShare count) shares
  pub whole : IsPermutation (concat shares) (range_with_len 0 count)
  pub given_for : AllZip makes shares made
