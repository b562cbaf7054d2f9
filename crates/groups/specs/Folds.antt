-- Rows folded into the groups of the sources of a plan.
use Rattle.std.specs.Prelude.{◌≡◌, ℕ, ◌+◌, ◌≤◌, true, List, ◌++◌, length, sum_by}
use Rattle.std.specs.List.{AllByRecursion, Contains}
use Rattle.aggs.specs.Room.{cell_limit}
use Rattle.cells.specs.Values.{RowValue}
use Rattle.groups.specs.Accumulators.{aggregations_of}
use Rattle.groups.specs.Bags.{Covers}
use Rattle.groups.specs.Pools.{HaveFiner, IsPool, has_finer, sets_of}
use Rattle.groups.specs.declared.aggregation.Aggregation.{Aggregation}
use Rattle.groups.specs.declared.folding.Folding.{Folding}
use Rattle.groups.specs.declared.pool.SetBag.{SetBag}
use Rattle.query.specs.Plans.{PlanTree}

module _ {H : Type 0} where
  -- ---- sources and others

  -- rows went into the source and into all others, and they are few enough together
  pub record MayTakeOthers (others : List (SetBag H)) (source : SetBag H) : Type 0 where
    pub aggregations : List Aggregation
    pub rows : List RowValue
    pub more : List RowValue
    pub covers : Covers aggregations source.set.items rows source.bag
    pub pool : IsPool aggregations more others
    pub few : length rows + length more ≤ cell_limit
    pub finer : has_finer others source.set.items ≡ true

  -- whatever rows went into the others went behind those of the source
  pub record TakesOthers (others : List (SetBag H)) (old new : SetBag H) : Type 0 where
    pub set_stays : new.set.items ≡ old.set.items
    pub serves : (aggregations : List Aggregation) (rows more : List RowValue) → Covers aggregations old.set.items rows old.bag → IsPool aggregations more others →
        Covers aggregations old.set.items (rows ++ more) new.bag

  -- ---- a plan

  -- the rows went into the groups of sources from which those of each set of the plan can be made
  pub record Folds (plan : PlanTree) (rows : List RowValue) (folding : Folding H) : Type 0 where
    pub planned : folding.plan.now ≡ plan
    pub aggregations : folding.aggregations.items ≡ aggregations_of plan.items
    pub finer : HaveFiner folding.sources.items plan.sets
    pub among : AllByRecursion (Contains plan.sets) (sets_of folding.sources.items)
    pub covers : IsPool (aggregations_of plan.items) rows folding.sources.items

  -- the groups of all sources together
  abbrev pub group_count : Folding H → ℕ
  group_count folding = sum_by (λ s. length s.bag) folding.sources.items

  -- few enough rows went in
  pub record MayEnd (folding : Folding H) : Type 0 where
    pub plan : PlanTree
    pub taken : List RowValue
    pub folds : Folds plan taken folding
    pub few : length taken ≤ cell_limit

  -- both are of one plan, and the rows that went in are few enough together
  pub record MayJoin (first second : Folding H) : Type 0 where
    pub plan : PlanTree
    pub rows : List RowValue
    pub more : List RowValue
    pub firsts : Folds plan rows first
    pub seconds : Folds plan more second
    pub few : length rows + length more ≤ cell_limit
