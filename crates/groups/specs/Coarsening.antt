-- Groups of a coarser grouping set, made from those of a finer one.
use Rattle.std.specs.Prelude.{◌≡◌, ℕ, ◌<◌, ◌⊎◌, List, [], ◌∷◌, ◌++◌, length, map, set, slice_index_or}
use Rattle.aggs.specs.declared.acc.Acc.{Acc}
use Rattle.cells.specs.declared.cell.Cell.{Cell}
use Rattle.groups.specs.Accumulators.{accs_together}
use Rattle.groups.specs.Bags.{AreWithin, Group, IsCounted, picked}
use Rattle.groups.specs.declared.aggregation.Aggregation.{Aggregation}

-- the columns of some indexes in a grouping set
abbrev pub picked_columns : List ℕ → List ℕ → List ℕ
picked_columns columns indexes = map (λ i. slice_index_or columns i 0) indexes

-- these are the indexes of the columns among finer ones
pub record AreIndexes (finer columns indexes : List ℕ) : Type 0 where
  pub within : AreWithin (length finer) indexes
  pub are : picked_columns finer indexes ≡ columns

module _ {H : Type 0} where
  -- the groups with their cells of these indexes alone
  abbrev pub coarser : List ℕ → List (Group H) → List (Group H)
  coarser indexes groups = map (λ g. (picked indexes g.0, g.1)) groups

  -- accumulators have gone into a group of the tuple
  pub record JoinsGroup (tuple : List Cell) (accs : List (Acc H)) (old new : List (Group H)) : Type 0 where
    pub index : ℕ
    pub were : List (Acc H)
    pub within : index < length old
    pub at : (d : Group H) → slice_index_or old index d ≡ (tuple, were)
    pub is : new ≡ set old index (tuple, accs_together were accs)

  -- accumulators have gone into a group of the tuple, or into a new one
  abbrev pub TakesGroup : List Cell → List (Acc H) → List (Group H) → List (Group H) → Type 0
  TakesGroup tuple accs old new = JoinsGroup tuple accs old new ⊎ (new ≡ old ++ (tuple, accs) ∷ [])

-- few enough rows went into the groups, which are made coarser by columns of these indexes
pub record CanCoarsen {H : Type 0} (indexes : List ℕ) (groups : List (Group H)) : Type 0 where
  pub aggregations : List Aggregation
  pub columns : List ℕ
  pub within : AreWithin (length columns) indexes
  pub counted : IsCounted aggregations columns groups
