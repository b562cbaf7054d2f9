-- What a partial result tells of rows, as plain values: for each grouping set its groups, and for each group what the plan's
-- aggregates keep of its rows.
use Rattle.std.specs.Prelude.{◌≡◌, ℕ, List, [], ◌∷◌, map, Option, Some, None}
use Rattle.std.specs.List.{AllByRecursion, AllZip}
use Rattle.aggs.specs.Accs.{acc_of, kind_of}
use Rattle.aggs.specs.Keeping.{IsKept, acc_of_kept}
use Rattle.aggs.specs.declared.acc.Acc.{Acc}
use Rattle.aggs.specs.declared.kept.Kept.{Kept}
use Rattle.cells.specs.Values.{RowValue}
use Rattle.cells.specs.declared.cell.Cell.{Cell}
use Rattle.groups.specs.Accumulators.{aggregations_of}
use Rattle.groups.specs.Groups.{column_of, members, tuples}
use Rattle.groups.specs.declared.aggregation.Aggregation.{Aggregation}
use Rattle.query.specs.Plans.{PlanTree}

-- a group: its tuple, and what is kept of its rows
pub record GroupValue : Type 0 where
  pub tuple : List Cell
  pub kept : List Kept

-- these are kept of the rows, one for each aggregate
abbrev pub AreKept : List Aggregation → List RowValue → List Kept → Type 0
AreKept aggregations rows kepts = AllZip (λ (a : Aggregation) (k : Kept). IsKept a.kind (column_of a.column rows) k) aggregations kepts

-- a group of a set tells what is kept of its rows
abbrev pub TellsGroup : List Aggregation → List ℕ → List RowValue → GroupValue → Type 0
TellsGroup aggregations set rows g = AreKept aggregations (members set g.tuple rows) g.kept

-- these are the groups of a grouping set, one for each of its tuples, and each tells what is kept of its rows
pub record TellsSet (aggregations : List Aggregation) (set : List ℕ) (rows : List RowValue) (groups : List GroupValue) : Type 0 where
  pub tuples : map (λ g. g.tuple) groups ≡ tuples set rows
  pub each : AllByRecursion (TellsGroup aggregations set rows) groups

-- set by set, in the plan's order
pub record Tells (plan : PlanTree) (rows : List RowValue) (sets : List (List GroupValue)) : Type 0 where
  pub each : AllZip (λ set groups. TellsSet (aggregations_of plan.items) set rows groups) plan.sets sets

module _ {H : Type 0} where
  -- whatever cells the accumulator is of, this is kept of them
  pub record Keeps (acc : Acc H) (kept : Kept) : Type 0 where
    pub keeps : (xs : List Cell) → acc ≡ acc_of (kind_of acc) xs → IsKept (kind_of acc) xs kept

  -- accumulator by accumulator
  abbrev pub Keep : List (Acc H) → List Kept → Type 0
  Keep accs kepts = AllZip Keeps accs kepts

  -- the groups with their accumulators tell these, each with its tuple
  abbrev pub AreTold : List (List Cell × List (Acc H)) → List GroupValue → Type 0
  AreTold groups told = AllZip (λ (g : List Cell × List (Acc H)) (t : GroupValue). (t.tuple ≡ g.0) × Keep g.1 t.kept) groups told

  -- the first of a list and those after it, where both are there
  abbrev pub and_acc : Option (Acc H) → Option (List (Acc H)) → Option (List (Acc H))
  and_acc None later = None
  and_acc (Some a) None = None
  and_acc (Some a) (Some later) = Some (a ∷ later)

  -- the accumulators that keep these, one for each aggregate
  abbrev pub accs_of_kept : List Aggregation → List Kept → Option (List (Acc H))
  accs_of_kept [] [] = Some []
  accs_of_kept [] (k ∷ kepts) = None
  accs_of_kept (a ∷ aggregations) [] = None
  accs_of_kept (a ∷ aggregations) (k ∷ kepts) = and_acc (acc_of_kept a.kind k) (accs_of_kept aggregations kepts)

  -- a tuple's accumulators and the groups after it, where all are there
  abbrev pub and_pair : List Cell → Option (List (Acc H)) → Option (List (List Cell × List (Acc H))) → Option (List (List Cell × List (Acc H)))
  and_pair tuple None later = None
  and_pair tuple (Some accs) None = None
  and_pair tuple (Some accs) (Some later) = Some ((tuple, accs) ∷ later)

  -- groups with the accumulators that keep what they tell
  abbrev pub pairs_of : List Aggregation → List GroupValue → Option (List (List Cell × List (Acc H)))
  pairs_of aggregations [] = Some []
  pairs_of aggregations (g ∷ groups) = and_pair g.tuple (accs_of_kept aggregations g.kept) (pairs_of aggregations groups)
