-- Rows folded into groups.
use Rattle.std.specs.Prelude.{◌≡◌, ℕ, List, [], ◌∷◌, length, set, refl, ◌||◌}
use Rattle.std.specs.List.{AllByRecursion, Contains, list_any, range_with_len}
use Rattle.std.specs.List.Sorted.{IsPermutation}
use Rattle.std.proofs.Common.{ap, sym, ◌∙◌, subst}
use Rattle.std.proofs.lemmas.List.Sorted.{IsPermutation-sym, IsPermutation-trans}
use Rattle.cells.specs.Values.{RowValue}
use Rattle.cells.specs.declared.cell.Cell.{Cell}
use Rattle.groups.specs.Accumulators.{aggregations_of}
use Rattle.groups.specs.Bags.{Group, joined}
use Rattle.groups.specs.Folds.{Folds, MayEnd}
use Rattle.groups.specs.Groups.{kept, rows_over}
use Rattle.groups.specs.Numbered.{picked_rows}
use Rattle.groups.specs.Partials.{Stands, StandsEach}
use Rattle.groups.specs.Pools.{AreCounted, AreSources, HaveFiner, IsPool, has_all, has_finer, sets_of}
use Rattle.groups.specs.declared.aggregation.Aggregation.{Aggregation}
use Rattle.groups.specs.declared.folding.Folding.{Folding}
use Rattle.groups.specs.declared.pool.SetBag.{SetBag}
use Rattle.groups.proofs.NeededLemmas.{all_picked}
use Rattle.groups.proofs.TuplesLemmas.{all_through}
use Rattle.query.specs.Plans.{PlanTree}

module _ {H : Type 0} where
  pub finer_by_sets : (set : List ℕ) (old new : List (SetBag H)) → sets_of new ≡ sets_of old → has_finer new set ≡ has_finer old set
  finer_by_sets set old new e = by_sets new ∙ ap (list_any (λ s. has_all s set)) e ∙ sym (by_sets old)
    where
      by_sets : (pool : List (SetBag H)) → has_finer pool set ≡ list_any (λ s. has_all s set) (sets_of pool)
      by_sets [] = refl
      by_sets (f ∷ pool) = ap (λ b. has_all f.set.items set || b) (by_sets pool)

  pub folds_none : (plan : PlanTree) (folding : Folding H) → folding.plan.now ≡ plan → folding.aggregations.items ≡ aggregations_of plan.items →
      AreSources plan.sets folding.sources.items → Folds plan [] folding
  folds_none plan folding planned same sources = record {
    planned = planned;
    aggregations = same;
    finer = sources.finer;
    among = (sources.planned).among;
    covers = (sources.planned).none (aggregations_of plan.items);
  }

  pub end_counted : (folding : Folding H) (aggregations : List Aggregation) → aggregations ≡ folding.aggregations.items → MayEnd folding → AreCounted aggregations folding.sources.items
  end_counted folding aggregations is may =
      subst (λ a. AreCounted a folding.sources.items) (sym (is ∙ (may.folds).aggregations)) (record { rows = may.taken; covers = (may.folds).covers; few = may.few })

  pub end_finer : (folding : Folding H) (sets : List (List ℕ)) → sets ≡ folding.plan.now.sets → MayEnd folding → HaveFiner folding.sources.items sets
  end_finer folding sets is may = rw (is, (may.folds).planned) (may.folds).finer

  pub stands_end : (hash : List Cell → ℕ) (folding : Folding H) (aggregations : List Aggregation) (sets : List (List ℕ)) (tries : List (List (Group H))) (plan : PlanTree) (rows : List RowValue) →
      aggregations ≡ folding.aggregations.items → sets ≡ folding.plan.now.sets → Folds plan rows folding →
      ((rows : List RowValue) → IsPool aggregations rows folding.sources.items → StandsEach hash aggregations sets rows tries) → Stands hash plan rows tries
  stands_end hash folding aggregations sets tries plan rows is are folds stands =
      let same : aggregations ≡ aggregations_of plan.items = is ∙ folds.aggregations in
      let each : StandsEach hash aggregations sets rows tries = stands rows (rw same folds.covers) in
      record {
        each = subst (λ a. StandsEach hash a plan.sets rows tries) same
            (subst (λ s. StandsEach hash aggregations s rows tries) (are ∙ ap (λ (p : PlanTree). p.sets) folds.planned) each);
      }

  -- the plan of a folding that may end asks for its aggregates
  pub end_asked : (folding : Folding H) (aggregations : List Aggregation) → aggregations ≡ folding.aggregations.items → MayEnd folding → aggregations ≡ aggregations_of folding.plan.now.items
  end_asked folding aggregations is may = is ∙ (may.folds).aggregations ∙ ap (λ (p : PlanTree). aggregations_of p.items) (sym (may.folds).planned)

-- the order of rows does not count
pub folds_any_order : (H : Type 0) (plan : PlanTree) (xs ys : List RowValue) (folding : Folding H) → IsPermutation xs ys → Folds plan xs folding → Folds plan ys folding
folds_any_order H plan xs ys folding moved folds = record {
  planned = folds.planned;
  aggregations = folds.aggregations;
  finer = folds.finer;
  among = folds.among;
  covers = record {
    each = all_through _ _ (λ (f : SetBag H) covers. record {
      parts = covers.parts;
      each = covers.each;
      all = IsPermutation-trans ys xs (joined covers.parts) (IsPermutation-sym xs ys moved) covers.all;
    }) folding.sources.items (folds.covers).each;
  };
}

-- ---- the sources of a plan over rows of columns
module _ {H : Type 0} where
  pub folds_rows : (plan : PlanTree) (rows : List RowValue) (none new : Folding H) → Folds plan [] none → new.plan.now ≡ none.plan.now → new.aggregations.items ≡ none.aggregations.items →
      sets_of new.sources.items ≡ sets_of none.sources.items → IsPool none.aggregations.items rows new.sources.items → Folds plan rows new
  folds_rows plan rows none new folds same_plan same_aggregations sets pool = record {
    planned = same_plan ∙ folds.planned;
    aggregations = same_aggregations ∙ folds.aggregations;
    finer = all_through _ _ (λ s f. finer_by_sets s none.sources.items new.sources.items sets ∙ f) plan.sets folds.finer;
    among = subst (AllByRecursion (Contains plan.sets)) (sym sets) folds.among;
    covers = subst (λ a. IsPool a rows new.sources.items) folds.aggregations pool;
  }

  -- all rows went in, by their indexes
  pub folds_all : (plan : PlanTree) (all : List RowValue) (lent rows : List ℕ) (n : ℕ) (folding : Folding H) → n ≡ length all → lent ≡ rows → rows ≡ range_with_len 0 n →
      Folds plan (kept plan.condition (picked_rows all lent)) folding → Folds plan (kept plan.condition all) folding
  folds_all plan all lent rows n folding long same are folds =
      subst (λ l. Folds plan (kept plan.condition l) folding) (ap (picked_rows all) (same ∙ are) ∙ all_picked all n long) folds
