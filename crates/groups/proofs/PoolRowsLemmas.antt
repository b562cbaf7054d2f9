-- The rows of a report, set by set, from groups in a pool.
use Rattle.std.specs.Prelude.{◌≡◌, ℕ, ◌+◌, ◌<◌, ◌≤◌, List, [], ◌∷◌, ◌++◌, length, take, refl}
use Rattle.std.specs.List.{flat_map}
use Rattle.std.proofs.Common.{get_or, ap, ap₂, sym, ◌∙◌}
use Rattle.std.proofs.lemmas.List.{append-nil, take_all}
use Rattle.std.proofs.lemmas.List.Concat.{flat_map-append}
use Rattle.cells.specs.Values.{RowValue}
use Rattle.cells.specs.declared.total.Total.{Total}
use Rattle.groups.specs.Groups.{rows_over, set_rows}
use Rattle.groups.specs.Pools.{IsPool}
use Rattle.groups.specs.declared.aggregation.Aggregation.{Aggregation}
use Rattle.groups.specs.declared.pool.SetBag.{SetBag}
use Rattle.groups.proofs.TuplesLemmas.{take_next}
use Rattle.query.specs.Plans.{PlanTree}

module _ {H : Type 0} (plan : PlanTree) (aggregations : List Aggregation) (pool : List (SetBag H)) where
  -- these are the rows of the first i sets, for whatever rows went into the pool
  pub record AreRowsOf (i : ℕ) (made : List (List Total)) : Type 0 where
    pub same : (kept : List RowValue) → IsPool aggregations kept pool → made ≡ flat_map (λ set. set_rows plan set kept) (take i plan.sets)

  pub rows_of_none : AreRowsOf 0 []
  rows_of_none = record { same = λ kept pooled. refl }

  pub rows_of_next : (sets : List (List ℕ)) (i : ℕ) (set : List ℕ) (made new : List (List Total)) → sets ≡ plan.sets → i < length sets → set ≡ get_or sets i set → AreRowsOf i made →
      ((kept : List RowValue) → IsPool aggregations kept pool → new ≡ made ++ set_rows plan set kept) → AreRowsOf (i + 1) new
  rows_of_next sets i set made new are h is now one = record {
    same = λ kept pooled.
        let rows_of : List (List ℕ) → List (List Total) = flat_map (λ set. set_rows plan set kept) in
        one kept pooled ∙ ap₂ (λ (l m : List (List Total)). l ++ m) (now.same kept pooled ∙ ap (λ ss. rows_of (take i ss)) (sym are)) (sym (append-nil (set_rows plan set kept)))
        ∙ sym (flat_map-append (λ set. set_rows plan set kept) (take i sets) (set ∷ [])) ∙ ap rows_of (sym (take_next sets i set set h is))
        ∙ ap (λ ss. rows_of (take (i + 1) ss)) are;
  }

  pub rows_of_all : (sets : List (List ℕ)) (i : ℕ) (made : List (List Total)) → sets ≡ plan.sets → length sets ≤ i → AreRowsOf i made → (kept : List RowValue) → IsPool aggregations kept pool →
      made ≡ rows_over plan kept
  rows_of_all sets i made are h now kept pooled =
      let rows_of : List (List ℕ) → List (List Total) = flat_map (λ set. set_rows plan set kept) in
      now.same kept pooled ∙ ap (λ ss. rows_of (take i ss)) (sym are) ∙ ap rows_of (take_all i sets h) ∙ ap rows_of are
