-- Partial results: for each grouping set the groups of some rows, in whatever order the rows came.
use Rattle.std.specs.Prelude.{◌≡◌, ℕ, ◌+◌, ◌≤◌, List, length, map}
use Rattle.std.specs.List.{AllZip}
use Rattle.aggs.specs.Room.{cell_limit}
use Rattle.aggs.specs.declared.acc.Acc.{Acc}
use Rattle.cells.specs.TupleOrder.{tuple_cmp}
use Rattle.cells.specs.Values.{RowValue}
use Rattle.cells.specs.declared.cell.Cell.{Cell}
use Rattle.groups.specs.Accumulators.{aggregations_of, group}
use Rattle.groups.specs.declared.aggregation.Aggregation.{Aggregation}
use Rattle.query.specs.Plans.{PlanTree}
use Rattle.trie.specs.Digits.{digit_order}
use Rattle.trie.specs.Entries.{value_at}

-- the rows that a piece of a table holds
abbrev pub rows_of : List (Cell × RowValue) → List RowValue
rows_of entries = map (λ e. e.1) entries

module _ {H : Type 0} (hash : List Cell → ℕ) where
  -- each tuple of the set has its group, whose accumulators are those of its rows, and no other tuple is there
  pub record StandsAt (aggregations : List Aggregation) (set : List ℕ) (rows : List RowValue) (entries : List (List Cell × List (Acc H))) : Type 0 where
    pub gives : (tuple : List Cell) → value_at (digit_order hash tuple_cmp) entries tuple ≡ group aggregations set rows tuple

  -- set by set
  abbrev pub StandsEach : List Aggregation → List (List ℕ) → List RowValue → List (List (List Cell × List (Acc H))) → Type 0
  StandsEach aggregations sets rows tries = AllZip (λ set entries. StandsAt aggregations set rows entries) sets tries

  -- the partial result stands for the rows, in whatever order
  pub record Stands (plan : PlanTree) (rows : List RowValue) (tries : List (List (List Cell × List (Acc H)))) : Type 0 where
    pub each : StandsEach (aggregations_of plan.items) plan.sets rows tries

  -- two partial results of one plan, of rows that are few enough together
  pub record MayMeet (first second : List (List (List Cell × List (Acc H)))) : Type 0 where
    pub plan : PlanTree
    pub xs : List RowValue
    pub ys : List RowValue
    pub few : length xs + length ys ≤ cell_limit
    pub firsts : Stands plan xs first
    pub seconds : Stands plan ys second
