-- Bags of groups: a list of groups that rows go into, of which several may have one tuple.
use Rattle.std.specs.Prelude.{◌≡◌, ℕ, ◌+◌, ◌<◌, ◌≤◌, false, List, ◌++◌, length, map, slice_index_or}
use Rattle.std.specs.List.{AllByRecursion, AllZip, flat_map}
use Rattle.std.specs.List.Sorted.{IsPermutation}
use Rattle.aggs.specs.Room.{cell_limit}
use Rattle.aggs.specs.declared.acc.Acc.{Acc}
use Rattle.cells.specs.Values.{RowValue}
use Rattle.cells.specs.declared.cell.Cell.{Cell}
use Rattle.cells.specs.declared.cell.Cell.TheVariants.{Null}
use Rattle.groups.specs.Accumulators.{accs_of, no_rows}
use Rattle.groups.specs.Groups.{tuple_of}
use Rattle.groups.specs.declared.aggregation.Aggregation.{Aggregation}

-- a group: its tuple and its accumulators
abbrev pub Group : Type 0 → Type 0
Group H = List Cell × List (Acc H)

-- indexes in a list of this length
abbrev pub AreWithin : ℕ → List ℕ → Type 0
AreWithin count indexes = AllByRecursion (λ i. i < count) indexes

-- the cells of these indexes: for those of columns a row's tuple
abbrev pub picked : List ℕ → List Cell → List Cell
picked indexes cells = map (λ i. slice_index_or cells i Null) indexes

-- the lists put together
abbrev pub joined : List (List RowValue) → List RowValue
joined parts = flat_map (λ part. part) parts

module _ {H : Type 0} (aggregations : List Aggregation) (columns : List ℕ) where
  -- some rows of one tuple, and their accumulators
  pub record IsPart (group : Group H) (part : List RowValue) : Type 0 where
    pub some : no_rows part ≡ false
    pub alike : AllByRecursion (λ r. tuple_of columns r ≡ group.0) part
    pub accs : group.1 ≡ accs_of aggregations part

  abbrev pub AreParts : List (Group H) → List (List RowValue) → Type 0
  AreParts groups parts = AllZip IsPart groups parts

  -- each row has gone into one of the groups
  pub record Covers (rows : List RowValue) (groups : List (Group H)) : Type 0 where
    pub parts : List (List RowValue)
    pub each : AreParts groups parts
    pub all : IsPermutation rows (joined parts)

module _ {H : Type 0} (aggregations : List Aggregation) where
  -- few enough rows went into the groups
  pub record IsCounted (columns : List ℕ) (groups : List (Group H)) : Type 0 where
    pub rows : List RowValue
    pub covers : Covers aggregations columns rows groups
    pub few : length rows ≤ cell_limit

-- ---- two bags
module _ {H : Type 0} where
  -- rows went into both, and they are few enough together
  pub record CanJoin (first second : List (Group H)) : Type 0 where
    pub aggregations : List Aggregation
    pub columns : List ℕ
    pub rows : List RowValue
    pub more : List RowValue
    pub firsts : Covers aggregations columns rows first
    pub seconds : Covers aggregations columns more second
    pub few : length rows + length more ≤ cell_limit

  -- whatever rows went into both went into the new groups
  pub record HasBoth (first second new : List (Group H)) : Type 0 where
    pub serves : (aggregations : List Aggregation) (columns : List ℕ) (rows more : List RowValue) → Covers aggregations columns rows first → Covers aggregations columns more second →
        Covers aggregations columns (rows ++ more) new
