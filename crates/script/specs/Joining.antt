-- What two shards tell together. The lines before a line stand with the last one first.
use Rattle.std.specs.Prelude.{◌≡◌, ◌||◌, ◌++◌, ℕ, Bool, true, false, List, Option, Result}
use Rattle.std.specs.List.Sorted.{IsPermutation}
use Rattle.cells.specs.Values.{RowValue}
use Rattle.cells.specs.declared.cell.Cell.{Cell}
use Rattle.groups.specs.Groups.{kept}
use Rattle.query.specs.Trees.{PredicateTree}
use Rattle.query.specs.declared.test.Test.{Test}
use Rattle.script.specs.Deeds.{Deed}
use Rattle.script.specs.Givens.{Givens}
use Rattle.script.specs.Told.{IsTold}
use Rattle.script.specs.Walks.{IsDoing}
use Rattle.script.specs.declared.fault.Fault.{Fault}
use Rattle.script.specs.declared.told.Told.{Told}
use Rattle.script.specs.declared.walk.Doing.{Doing}
use Rattle.script.specs.declared.walk.Walk.{Walk}

-- the rows of two lists are those of a third: whatever WHERE keeps, it keeps of both together what it keeps of that, in some order
pub record AreTogether (xs ys zs : List RowValue) : Type 0 where
  pub together : (condition : Option (PredicateTree (Test ℕ))) → IsPermutation (kept condition xs ++ kept condition ys) (kept condition zs)

-- both tell this
pub record AreAlike (first second both : Told) : Type 0 where
  pub as_first : both ≡ first
  pub as_second : both ≡ second

-- this is told of the rows of both together, of a line, just gone over, that does this
pub record Joins (walk : Walk) (doing : Doing) (first second both : Told) : Type 0 where
  pub is : (givens : Givens) (one two : Cell → Bool) (before : List (List ℕ)) (does : Result Deed Fault) → ((key : Cell) → one key ≡ true → two key ≡ false) → IsDoing walk.schema does doing →
      IsTold givens one before does first → IsTold givens two before does second → IsTold givens (λ key. one key || two key) before does both
