-- How far the writing loop has come.
use Rattle.std.proofs.Common.{ℕ, ◌≡◌, ◌≤◌, ◌-◌, Bool, false, List, Option, arith, length, take, drop}
use Rattle.std.proofs.lemmas.Bool.Decides.{nat_tests}
use Rattle.std.proofs.lemmas.List.{length-drop, length-take}
use Rattle.std.specs.Prelude.{◌==◌}
use Rattle.std.specs.Io.KnownBytes.{Appends}
use Rattle.report.specs.Laws.{takes_last, takes_part}
use Rattle.report.specs.Taken.{TakesBeginning, TakesUpTo}

-- the whole is taken up to the rest, and what begins the rest goes on with it
pub record Written (old new : Option (List ℕ)) (whole rest : List ℕ) : Type 0 where
  pub taken : TakesUpTo old new whole rest
  pub late : (last : Option (List ℕ)) → TakesBeginning new last rest → TakesBeginning old last whole

pub written : (old new : Option (List ℕ)) (whole rest : List ℕ) → TakesUpTo old new whole rest → Written old new whole rest
written old new whole rest taken = record { taken = taken; late = λ last p. takes_last old new last whole rest taken p }

-- the first n bytes of the rest are taken, too
pub written_more : (old new newer : Option (List ℕ)) (whole rest : List ℕ) (n : ℕ) → Written old new whole rest → Appends new newer (take n rest)
    → Written old newer whole (take (length rest - n) (drop n rest))
written_more old new newer whole rest n w p = written old newer whole _ (takes_part old new newer whole rest n w.taken p)

-- what is left is no longer
pub left_shorter : (whole rest : List ℕ) (n : ℕ) → length rest ≤ length whole → length (take (length rest - n) (drop n rest)) ≤ length whole
left_shorter whole rest n short = omega (arith, length-take (length rest - n) (drop n rest), length-drop n rest)

-- where a byte is left, there are bytes
pub some_left : (whole rest : List ℕ) (none : Bool) → none ≡ (length rest == 0) → none ≡ false → length rest ≤ length whole → length whole ≡ 0 → ⊥
some_left whole rest none is some short empty = grind (arith, nat_tests)
