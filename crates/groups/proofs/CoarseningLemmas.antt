-- Groups of a finer set put together.
use Rattle.std.specs.Prelude.{◌≡◌, ℕ, ◌+◌, ◌<◌, ◌≤◌, List, [], ◌∷◌, ◌++◌, drop, length, take, refl}
use Rattle.std.specs.List.{AllByRecursion}
use Rattle.std.proofs.Common.{get_or, ap, ap₂, sym, ◌∙◌, subst, arith}
use Rattle.std.proofs.lemmas.List.{append-nil, get_or-map, map-append, take_all}
use Rattle.std.proofs.lemmas.List.Sorted.{IsPermutation-trans, length_permutation}
use Rattle.cells.specs.Values.{RowValue}
use Rattle.cells.specs.declared.cell.Cell.{Cell}
use Rattle.cells.specs.declared.cell.Cell.TheVariants.{Null}
use Rattle.groups.specs.Accumulators.{AllFit, accs_of}
use Rattle.groups.specs.Bags.{AreParts, AreWithin, Covers, Group, joined, picked}
use Rattle.groups.specs.Coarsening.{CanCoarsen, TakesGroup, coarser, picked_columns}
use Rattle.groups.specs.Groups.{cell_at, tuple_of}
use Rattle.groups.specs.declared.aggregation.Aggregation.{Aggregation}
use Rattle.groups.proofs.BagLemmas.{all_fit, covers_part, cut_at, cut_short, parts_have}
use Rattle.groups.proofs.TuplesLemmas.{cut_list, take_next}

-- ---- coarser tuples
picked_tuple : (columns indexes : List ℕ) (row : RowValue) → AreWithin (length columns) indexes →
    tuple_of (picked_columns columns indexes) row ≡ picked indexes (tuple_of columns row)
picked_tuple columns [] row all = refl
picked_tuple columns (i ∷ indexes) row all = ap₂ (λ (c : Cell) (cs : List Cell). c ∷ cs)
    (sym (get_or-map (λ c. cell_at c row) columns i 0 Null all.0)) (picked_tuple columns indexes row all.1)

alike_coarser : (columns indexes : List ℕ) → AreWithin (length columns) indexes → (t : List Cell) (part : List RowValue) →
    AllByRecursion (λ r. tuple_of columns r ≡ t) part → AllByRecursion (λ r. tuple_of (picked_columns columns indexes) r ≡ picked indexes t) part
alike_coarser columns indexes all t [] alike = tt
alike_coarser columns indexes all t (r ∷ part) alike =
    (picked_tuple columns indexes r all ∙ ap (picked indexes) alike.0, alike_coarser columns indexes all t part alike.1)

module _ {H : Type 0} (aggregations : List Aggregation) (columns indexes : List ℕ) (all : AreWithin (length columns) indexes) where
  parts_coarser : (groups : List (Group H)) (parts : List (List RowValue)) → AreParts aggregations columns groups parts →
      AreParts aggregations (picked_columns columns indexes) (coarser indexes groups) parts
  parts_coarser [] [] are = tt
  parts_coarser [] (p ∷ parts) are = absurd are
  parts_coarser (g ∷ groups) [] are = absurd are
  parts_coarser (g ∷ groups) (p ∷ parts) are =
      let is = are.0 in
      (record { some = is.some; alike = alike_coarser columns indexes all g.0 p is.alike; accs = is.accs }, parts_coarser groups parts are.1)

  covers_coarser : (rows : List RowValue) (groups : List (Group H)) → Covers aggregations columns rows groups →
      Covers aggregations (picked_columns columns indexes) rows (coarser indexes groups)
  covers_coarser rows groups covers = record { parts = covers.parts; each = parts_coarser groups covers.parts covers.each; all = covers.all }

-- the first i groups have gone into the bag
pub record Coarsening {H : Type 0} (indexes : List ℕ) (groups : List (Group H)) (i : ℕ) (bag : List (Group H)) : Type 0 where
  pub serves : (aggregations : List Aggregation) (columns : List ℕ) (parts : List (List RowValue)) →
      AreParts aggregations (picked_columns columns indexes) (coarser indexes (take i groups)) parts → Covers aggregations (picked_columns columns indexes) (joined parts) bag

no_parts : (H : Type 0) (aggregations : List Aggregation) (columns : List ℕ) (parts : List (List RowValue)) → AreParts {H = H} aggregations columns [] parts → joined parts ≡ []
no_parts H aggregations columns [] are = refl
no_parts H aggregations columns (p ∷ parts) are = absurd are

module _ {H : Type 0} (indexes : List ℕ) (groups : List (Group H)) where
  pub coarsening_all : (bag : List (Group H)) (i : ℕ) → length groups ≤ i → Coarsening indexes groups i bag → (aggregations : List Aggregation) (columns : List ℕ) (rows : List RowValue) →
      AreWithin (length columns) indexes → Covers aggregations columns rows groups → Covers aggregations (picked_columns columns indexes) rows bag
  coarsening_all bag i past now aggregations columns rows all covers =
      let served = covers_coarser aggregations columns indexes all rows groups covers in
      let made = now.serves aggregations columns served.parts
      (subst (λ gs. AreParts aggregations (picked_columns columns indexes) (coarser indexes gs) served.parts) (sym (take_all i groups past)) served.each) in
      record { parts = made.parts; each = made.each; all = IsPermutation-trans _ _ _ served.all made.all }

  module _ (its : List (Group H)) (same : its ≡ groups) (i : ℕ) (g : Group H) (h : i < length its) (is : g ≡ get_or its i g) where
    within : i < length groups
    within = subst (λ l. i < length l) same h

    here : g ≡ get_or groups i g
    here = subst (λ (l : List (Group H)). g ≡ get_or l i g) same is

    abbrev coarse : Group H
    coarse = (picked indexes g.0, g.1)

    pub coarsening_fit : (old : List (Group H)) → CanCoarsen indexes groups → Coarsening indexes groups i old → AllByRecursion (λ x. AllFit x.1 g.1) old
    coarsening_fit old can now =
        let columns : List ℕ = picked_columns can.columns indexes in
        let served = covers_coarser can.aggregations can.columns indexes can.within can.counted.rows groups can.counted.covers in
        let split : coarser indexes groups ≡ coarser indexes (take i groups) ++ coarse ∷ coarser indexes (drop (i + 1) groups) =
        ap (coarser indexes) (cut_list groups i g g within here) ∙ map-append (λ x. (picked indexes x.0, x.1)) (take i groups) (g ∷ drop (i + 1) groups) in
        let cut = cut_at can.aggregations columns (coarser indexes (take i groups)) coarse (coarser indexes (drop (i + 1) groups)) served.parts
        (subst (λ gs. AreParts can.aggregations columns gs served.parts) split served.each) in
        let covers = now.serves can.aggregations can.columns cut.firsts cut.are in
        parts_have can.aggregations columns (λ accs. AllFit accs g.1) (length cut.part)
        (λ part few. subst (AllFit (accs_of can.aggregations part)) (sym (cut.is).accs) (all_fit H can.aggregations part cut.part few)) old covers.parts covers.each
        (omega (
          arith,
          can.counted.few,
          length_permutation can.counted.rows (joined served.parts) served.all,
          cut_short can.aggregations columns (coarser indexes (take i groups)) coarse (coarser indexes (drop (i + 1) groups)) served.parts cut,
          length_permutation (joined cut.firsts) (joined covers.parts) covers.all,
        ))

    pub coarsening_more : (old new : List (Group H)) → Coarsening indexes groups i old → TakesGroup (picked indexes g.0) g.1 old new → Coarsening indexes groups (i + 1) new
    coarsening_more old new now takes = record {
      serves = λ aggregations columns parts are.
          let picks : List ℕ = picked_columns columns indexes in
          let next : coarser indexes (take (i + 1) groups) ≡ coarser indexes (take i groups) ++ coarse ∷ [] =
          ap (coarser indexes) (take_next groups i g g within here) ∙ map-append (λ x. (picked indexes x.0, x.1)) (take i groups) (g ∷ []) in
          let cut = cut_at aggregations picks (coarser indexes (take i groups)) coarse [] parts (subst (λ gs. AreParts aggregations picks gs parts) next are) in
          let whole : joined parts ≡ joined cut.firsts ++ cut.part =
          cut.whole ∙ ap (λ l. joined cut.firsts ++ (cut.part ++ l)) (no_parts H aggregations picks cut.lasts cut.behind) ∙ ap (λ l. joined cut.firsts ++ l) (append-nil cut.part) in
          subst (λ rows. Covers aggregations picks rows new) (sym whole)
          (covers_part aggregations picks (picked indexes g.0) g.1 cut.part cut.is (joined cut.firsts) old new (now.serves aggregations columns cut.firsts cut.are) takes);
    }
