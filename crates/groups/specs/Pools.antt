-- Groups of several grouping sets over the same rows.
use Rattle.std.specs.Prelude.{◌≡◌, ℕ, ◌<◌, ◌≤◌, true, Bool, List, [], length, map, nat_eq}
use Rattle.std.specs.Cmp.Lexicographic.{pointwise}
use Rattle.std.specs.List.{AllByRecursion, Contains, list_all, list_any}
use Rattle.std.specs.Option.{is_some}
use Rattle.aggs.specs.Room.{cell_limit}
use Rattle.cells.specs.Values.{RowValue}
use Rattle.groups.specs.Bags.{Covers, IsCounted}
use Rattle.groups.specs.Groups.{index_in}
use Rattle.groups.specs.declared.aggregation.Aggregation.{Aggregation}
use Rattle.groups.specs.declared.pool.SetBag.{SetBag}

-- all columns of the set are among the finer ones
abbrev pub has_all : List ℕ → List ℕ → Bool
has_all finer set = list_all (λ c. is_some (index_in finer c)) set

module _ {H : Type 0} where
  -- the sets whose groups are there
  abbrev pub sets_of : List (SetBag H) → List (List ℕ)
  sets_of pool = map (λ f. f.set.items) pool

  -- the pool has groups of a set that has all columns of this one
  abbrev pub has_finer : List (SetBag H) → List ℕ → Bool
  has_finer pool set = list_any (λ f. has_all f.set.items set) pool

  -- the pool has the groups of this very set
  abbrev pub has_set : List (SetBag H) → List ℕ → Bool
  has_set pool set = list_any (λ f. pointwise nat_eq f.set.items set) pool

  -- of each set
  abbrev pub HaveFiner : List (SetBag H) → List (List ℕ) → Type 0
  HaveFiner pool sets = AllByRecursion (λ set. has_finer pool set ≡ true) sets

  -- those of each set of so many columns
  abbrev pub HaveSetsOf : ℕ → List (SetBag H) → List (List ℕ) → Type 0
  HaveSetsOf columns pool sets = AllByRecursion (λ set. length set ≡ columns → has_set pool set ≡ true) sets

  -- those of each set of more columns
  abbrev pub HaveSetsAbove : ℕ → List (SetBag H) → List (List ℕ) → Type 0
  HaveSetsAbove columns pool sets = AllByRecursion (λ set. columns < length set → has_set pool set ≡ true) sets

  -- the rows went into the groups of each set of the pool
  pub record IsPool (aggregations : List Aggregation) (rows : List RowValue) (pool : List (SetBag H)) : Type 0 where
    pub each : AllByRecursion (λ f. Covers aggregations f.set.items rows f.bag) pool

  -- few enough rows went into these groups
  pub record MayCoarsen (finer : SetBag H) : Type 0 where
    pub aggregations : List Aggregation
    pub counted : IsCounted aggregations finer.set.items finer.bag

  -- few enough rows went into the groups of each set of the pool
  pub record AreCounted (aggregations : List Aggregation) (pool : List (SetBag H)) : Type 0 where
    pub rows : List RowValue
    pub covers : IsPool aggregations rows pool
    pub few : length rows ≤ cell_limit

  pub record MayCoarsenAll (pool : List (SetBag H)) : Type 0 where
    pub aggregations : List Aggregation
    pub counted : AreCounted aggregations pool

  -- groups of more sets are there beside those of the old ones, over whatever rows went into the pool
  pub record Grows (old new : List (SetBag H)) : Type 0 where
    pub covers : (aggregations : List Aggregation) (rows : List RowValue) → IsPool aggregations rows old → IsPool aggregations rows new
    pub finer : (set : List ℕ) → has_finer old set ≡ true → has_finer new set ≡ true
    pub stay : (set : List ℕ) → has_set old set ≡ true → has_set new set ≡ true

  -- ---- sources

  -- each is one of the sets, and no rows went into it
  pub record ArePlanned (sets : List (List ℕ)) (sources : List (SetBag H)) : Type 0 where
    pub among : AllByRecursion (Contains sets) (sets_of sources)
    pub none : (aggregations : List Aggregation) → IsPool aggregations [] sources

  -- and each of the sets has one with all its columns
  pub record AreSources (sets : List (List ℕ)) (sources : List (SetBag H)) : Type 0 where
    pub planned : ArePlanned sets sources
    pub finer : HaveFiner sources sets

  -- there is one with all columns of the set: the set itself, where there was none
  pub record AddsSource (set : List ℕ) (old new : List (SetBag H)) : Type 0 where
    pub finer : has_finer new set ≡ true
    pub stay : (other : List ℕ) → has_finer old other ≡ true → has_finer new other ≡ true
    pub planned : (sets : List (List ℕ)) → Contains sets set → ArePlanned sets old → ArePlanned sets new
