-- Laws of groups: what lists of rows give when they are put together, and that the order of rows does not count.
use Rattle.std.specs.Prelude.{◌≡◌, ℕ, ◌≤◌, Bool, true, false, not, List, [], ◌∷◌, ◌++◌, filter, length, Option, Some, refl}
use Rattle.std.specs.List.Sorted.{IsPermutation}
use Rattle.std.proofs.Common.{ap, ap₂, sym, ◌∙◌, arith}
use Rattle.std.proofs.lemmas.List.{append-nil, map-append}
use Rattle.std.proofs.lemmas.List.Elements.{filter-append}
use Rattle.std.proofs.lemmas.List.Filters.{length-filter_both}
use Rattle.std.proofs.lemmas.List.Sorted.{IsPermutation-append_comm, IsPermutation-map}
use Rattle.aggs.specs.Accs.{acc_any_order, acc_joins, acc_of}
use Rattle.aggs.specs.Bags.{decided_by_bag}
use Rattle.aggs.specs.declared.acc.Acc.{Acc}
use Rattle.cells.specs.TupleOrder.{tuple_eq}
use Rattle.cells.specs.Values.{RowValue}
use Rattle.cells.specs.declared.cell.Cell.{Cell}
use Rattle.groups.specs.Accumulators.{accs_of, accs_together, both, group, group_or, is_start}
use Rattle.groups.specs.Groups.{cell_at, column_of, keeps, kept, members, tuple_of}
use Rattle.groups.specs.declared.aggregation.Aggregation.{Aggregation}
use Rattle.query.specs.Trees.{PredicateTree}
use Rattle.query.specs.declared.test.Test.{Test}

-- ---- WHERE

-- the rows kept of two lists together are those kept of each
pub kept_join : (condition : Option (PredicateTree (Test ℕ))) (xs ys : List RowValue) →
    kept condition (xs ++ ys) ≡ kept condition xs ++ kept condition ys
kept_join condition xs ys = filter-append (keeps condition) xs ys

-- the rows that pass a test are no more than all
pub kept_short : (test : RowValue → Bool) (rows : List RowValue) → length (filter test rows) ≤ length rows
kept_short test rows = omega (arith, length-filter_both test (λ r. not (test r)) (λ r. refl) rows)

-- ---- accumulators and groups
module _ {H : Type 0} where
  -- the accumulators of two lists of rows together
  pub accs_join : (aggregations : List Aggregation) (xs ys : List RowValue) →
      accs_of {H = H} aggregations (xs ++ ys) ≡ accs_together (accs_of aggregations xs) (accs_of aggregations ys)
  accs_join [] xs ys = refl
  accs_join (a ∷ aggregations) xs ys = ap₂ (λ (x : Acc H) (rest : List (Acc H)). x ∷ rest)
      (ap (acc_of a.kind) (map-append (cell_at a.column) xs ys) ∙ acc_joins a.kind (column_of a.column xs) (column_of a.column ys))
      (accs_join aggregations xs ys)

  pub accs_any_order : (aggregations : List Aggregation) (xs ys : List RowValue) → IsPermutation xs ys →
      accs_of {H = H} aggregations xs ≡ accs_of aggregations ys
  accs_any_order [] xs ys p = refl
  accs_any_order (a ∷ aggregations) xs ys p = ap₂ (λ (x : Acc H) (rest : List (Acc H)). x ∷ rest)
      (acc_any_order a.kind (column_of a.column xs) (column_of a.column ys) (IsPermutation-map (cell_at a.column) xs ys p))
      (accs_any_order aggregations xs ys p)

  -- no rows add nothing
  none_first : (aggregations : List Aggregation) (ys : List RowValue) →
      accs_together (accs_of {H = H} aggregations []) (accs_of aggregations ys) ≡ accs_of aggregations ys
  none_first aggregations ys = sym (accs_join aggregations [] ys)

  group_or_joins : (aggregations : List Aggregation) (start : Bool) (xs ys : List RowValue) →
      group_or {H = H} aggregations start (xs ++ ys) ≡ both (group_or aggregations start xs) (group_or aggregations start ys)
  group_or_joins aggregations false [] ys = refl
  group_or_joins aggregations true [] [] = ap Some (sym (none_first aggregations []))
  group_or_joins aggregations true [] (y ∷ ys) = ap Some (sym (none_first aggregations (y ∷ ys)))
  group_or_joins aggregations false (x ∷ xs) [] = ap (λ rows. Some (accs_of {H = H} aggregations rows)) (append-nil (x ∷ xs))
  group_or_joins aggregations true (x ∷ xs) [] = ap Some (accs_join aggregations (x ∷ xs) [])
  group_or_joins aggregations false (x ∷ xs) (y ∷ ys) = ap Some (accs_join aggregations (x ∷ xs) (y ∷ ys))
  group_or_joins aggregations true (x ∷ xs) (y ∷ ys) = ap Some (accs_join aggregations (x ∷ xs) (y ∷ ys))

  group_or_turns : (aggregations : List Aggregation) (start : Bool) (xs ys : List RowValue) →
      group_or {H = H} aggregations start (xs ++ ys) ≡ group_or aggregations start (ys ++ xs)
  group_or_turns aggregations start [] ys = ap (group_or {H = H} aggregations start) (sym (append-nil ys))
  group_or_turns aggregations start (x ∷ xs) [] = ap (group_or {H = H} aggregations start) (append-nil (x ∷ xs))
  group_or_turns aggregations start (x ∷ xs) (y ∷ ys) = ap Some
      (accs_any_order aggregations (x ∷ xs ++ y ∷ ys) (y ∷ ys ++ x ∷ xs) (IsPermutation-append_comm (x ∷ xs) (y ∷ ys)))

  module _ (aggregations : List Aggregation) (set : List ℕ) (tuple : List Cell) where
    -- the group of two lists of rows together
    pub group_joins : (xs ys : List RowValue) →
        group {H = H} aggregations set (xs ++ ys) tuple ≡ both (group aggregations set xs tuple) (group aggregations set ys tuple)
    group_joins xs ys = ap (group_or {H = H} aggregations (is_start set tuple)) (filter-append (λ r. tuple_eq (tuple_of set r) tuple) xs ys)
        ∙ group_or_joins aggregations (is_start set tuple) (members set tuple xs) (members set tuple ys)

    group_turns : (xs ys : List RowValue) → group {H = H} aggregations set (xs ++ ys) tuple ≡ group aggregations set (ys ++ xs) tuple
    group_turns xs ys = ap (group_or {H = H} aggregations (is_start set tuple)) (filter-append (λ r. tuple_eq (tuple_of set r) tuple) xs ys)
        ∙ group_or_turns aggregations (is_start set tuple) (members set tuple xs) (members set tuple ys)
        ∙ ap (group_or {H = H} aggregations (is_start set tuple)) (sym (filter-append (λ r. tuple_eq (tuple_of set r) tuple) ys xs))

    -- the order of the rows does not count
    pub group_any_order : (xs ys : List RowValue) → IsPermutation xs ys → group {H = H} aggregations set xs tuple ≡ group aggregations set ys tuple
    group_any_order = decided_by_bag (λ rows. group {H = H} aggregations set rows tuple) both group_joins group_turns
