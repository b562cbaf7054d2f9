-- The order of the rows does not count in a report.
use Rattle.std.specs.Prelude.{◌≡◌, ℕ, List, [], ◌∷◌, ◌++◌, map, Option, is_some, refl}
use Rattle.std.specs.List.{flat_map}
use Rattle.std.specs.List.Sorted.{IsPermutation}
use Rattle.std.proofs.Common.{ap, ap₂, sym, ◌∙◌}
use Rattle.std.proofs.lemmas.List.Elements.{filter-append}
use Rattle.std.proofs.lemmas.List.Sorted.{IsPermutation-append_comm}
use Rattle.aggs.specs.Bags.{decided_by_bag}
use Rattle.cells.specs.TupleOrder.{tuple_eq}
use Rattle.cells.specs.Values.{RowValue}
use Rattle.cells.specs.declared.cell.Cell.{Cell}
use Rattle.cells.specs.declared.total.Total.{Total}
use Rattle.groups.specs.Accumulators.{accs_of, accs_together, aggregations_of, both, group}
use Rattle.groups.specs.Finishing.{row_by}
use Rattle.groups.specs.Groups.{item_value, kept, members, report_rows, set_rows, shown, tuple_of, tuples}
use Rattle.groups.specs.Laws.{accs_any_order, accs_join, group_any_order, group_joins, kept_join}
use Rattle.groups.specs.declared.aggregation.Aggregation.{Aggregation}
use Rattle.groups.proofs.FinishLemmas.{row_is}
use Rattle.groups.proofs.SetTuplesLemmas.{group_is_some, has_group, tuples_by_groups}
use Rattle.query.specs.Plans.{PlanTree}
use Rattle.query.specs.Trees.{PredicateTree}
use Rattle.query.specs.declared.item.Item.{Item}
use Rattle.query.specs.declared.test.Test.{Test}

module _ (condition : Option (PredicateTree (Test ℕ))) (set : List ℕ) (t : List Cell) where
  kept_group : (xs ys : List RowValue) → IsPermutation xs ys →
      group {H = Unit {0}} [] set (kept condition xs) t ≡ group [] set (kept condition ys) t
  kept_group = decided_by_bag (λ rows. group {H = Unit {0}} [] set (kept condition rows) t) both
      (λ xs ys. ap (λ l. group {H = Unit {0}} [] set l t) (kept_join condition xs ys) ∙ group_joins [] set t (kept condition xs) (kept condition ys))
      (λ xs ys. ap (λ l. group {H = Unit {0}} [] set l t) (kept_join condition xs ys)
      ∙ group_any_order [] set t (kept condition xs ++ kept condition ys) (kept condition ys ++ kept condition xs)
      (IsPermutation-append_comm (kept condition xs) (kept condition ys))
      ∙ ap (λ l. group {H = Unit {0}} [] set l t) (sym (kept_join condition ys xs)))

  kept_has : (xs ys : List RowValue) → IsPermutation xs ys → has_group set (kept condition xs) t ≡ has_group set (kept condition ys) t
  kept_has xs ys p = sym (group_is_some (Unit {0}) [] set (kept condition xs) t) ∙ ap is_some (kept_group xs ys p)
      ∙ group_is_some (Unit {0}) [] set (kept condition ys) t

  of : List RowValue → List RowValue
  of rows = members set t (kept condition rows)

  of_both : (xs ys : List RowValue) → of (xs ++ ys) ≡ of xs ++ of ys
  unfolding of
  of_both xs ys = ap (members set t) (kept_join condition xs ys)
      ∙ filter-append (λ r. tuple_eq (tuple_of set r) t) (kept condition xs) (kept condition ys)

  kept_accs : (aggregations : List Aggregation) (xs ys : List RowValue) → IsPermutation xs ys →
      accs_of {H = Unit {0}} aggregations (of xs) ≡ accs_of aggregations (of ys)
  kept_accs aggregations = decided_by_bag (λ rows. accs_of {H = Unit {0}} aggregations (of rows)) accs_together
      (λ xs ys. ap (accs_of {H = Unit {0}} aggregations) (of_both xs ys) ∙ accs_join aggregations (of xs) (of ys))
      (λ xs ys. ap (accs_of {H = Unit {0}} aggregations) (of_both xs ys)
      ∙ accs_any_order aggregations (of xs ++ of ys) (of ys ++ of xs) (IsPermutation-append_comm (of xs) (of ys))
      ∙ ap (accs_of {H = Unit {0}} aggregations) (sym (of_both ys xs)))

  row_order : (items : List (Item ℕ)) (xs ys : List RowValue) → IsPermutation xs ys →
      map (item_value set t (members set t (kept condition xs))) items ≡ map (item_value set t (members set t (kept condition ys))) items
  unfolding of
  row_order items xs ys p = sym (row_is (Unit {0}) set t (of xs) items)
      ∙ ap (row_by set t items) (kept_accs (aggregations_of items) xs ys p) ∙ row_is (Unit {0}) set t (of ys) items

module _ (plan : PlanTree) (xs ys : List RowValue) (p : IsPermutation xs ys) where
  tuples_order : (set : List ℕ) → tuples set (kept plan.condition xs) ≡ tuples set (kept plan.condition ys)
  tuples_order set = tuples_by_groups set (kept plan.condition xs) (kept plan.condition ys) (λ t. kept_has plan.condition set t xs ys p)

  rows_order : (set : List ℕ) (ts : List (List Cell)) →
      flat_map (λ t. shown plan (map (item_value set t (members set t (kept plan.condition xs))) plan.items)) ts
      ≡ flat_map (λ t. shown plan (map (item_value set t (members set t (kept plan.condition ys))) plan.items)) ts
  rows_order set [] = refl
  rows_order set (t ∷ ts) = ap₂ (λ (l m : List (List Total)). l ++ m) (ap (shown plan) (row_order plan.condition set t plan.items xs ys p)) (rows_order set ts)

  sets_order : (sets : List (List ℕ)) →
      flat_map (λ set. set_rows plan set (kept plan.condition xs)) sets ≡ flat_map (λ set. set_rows plan set (kept plan.condition ys)) sets
  sets_order [] = refl
  sets_order (set ∷ sets) = ap₂ (λ (l m : List (List Total)). l ++ m)
      (rows_order set (tuples set (kept plan.condition xs))
      ∙ ap (flat_map (λ t. shown plan (map (item_value set t (members set t (kept plan.condition ys))) plan.items))) (tuples_order set))
      (sets_order sets)

pub report_any_order : (plan : PlanTree) (xs ys : List RowValue) → IsPermutation xs ys → report_rows plan xs ≡ report_rows plan ys
report_any_order plan xs ys p = sets_order plan xs ys p plan.sets
