-- What workers have of the pieces that they drew: some rows are folded, of the others there are the columns.
use Rattle.std.specs.Prelude.{◌≡◌, ℕ, ◌+◌, ◌≤◌, List, ◌++◌, IsPermutation, length}
use Rattle.aggs.specs.Room.{cell_limit}
use Rattle.cells.specs.Values.{RowValue}
use Rattle.columns.specs.Columns.{Hold}
use Rattle.crew.specs.Gathering.{AreMadeOf, PieceValue}
use Rattle.crew.specs.declared.gathered.Gathered.{Gathered}
use Rattle.groups.specs.Folds.{Folds}
use Rattle.groups.specs.Groups.{kept}
use Rattle.groups.specs.Needed.{Serve}
use Rattle.query.specs.Plans.{PlanTree}

-- a plan, the pieces whose rows it asks for, and how many workers are asked for
pub record Asked : Type 0 where
  pub plan : PlanTree
  pub pieces : List PieceValue
  pub workers : ℕ

module _ {H : Type 0} where
  -- of these rows, in some order, some are folded, and the columns that the plan needs hold the others
  pub record Gathers (plan : PlanTree) (rows : List RowValue) (made : Gathered H) : Type 0 where
    pub folded : List RowValue
    pub left : List RowValue
    pub whole : IsPermutation (folded ++ left) rows
    pub folds : Folds plan (kept plan.condition folded) made.folding
    pub held : Hold left made.columns
    pub serve : Serve plan made.columns
    pub counted : made.count ≡ length left

  -- rows of the plan were gathered, and they are few enough
  pub record MayFold (plan : PlanTree) (made : Gathered H) : Type 0 where
    pub rows : List RowValue
    pub gathers : Gathers plan rows made
    pub few : length rows ≤ cell_limit

  -- rows of one plan were gathered by both, and they are few enough together
  pub record MayMeet (first second : Gathered H) : Type 0 where
    pub plan : PlanTree
    pub rows : List RowValue
    pub more : List RowValue
    pub firsts : Gathers plan rows first
    pub seconds : Gathers plan more second
    pub few : length rows + length more ≤ cell_limit

  -- rows of the plan were gathered by all, and they are few enough together
  pub record MayAllMeet (plan : PlanTree) (made : List (Gathered H)) : Type 0 where
    pub rows : List RowValue
    pub are : AreMadeOf (Gathers plan) rows made
    pub few : length rows ≤ cell_limit
