-- The rows of a report, from groups.
use Rattle.std.specs.Prelude.{◌≡◌, ℕ, zero, suc, ◌+◌, ◌<◌, ◌⊎◌, Bool, true, false, List, [], ◌∷◌, ◌++◌, drop, if◌then◌else◌, length, map, pos, Option, Some, take, refl}
use Rattle.std.specs.Borrow.{Bor}
use Rattle.std.specs.List.{AllByRecursion, flat_map}
use Rattle.std.specs.List.Sorted.{IsPermutation, IsSorted}
use Rattle.std.specs.Map.{keys_of}
use Rattle.std.proofs.Common.{get_or, ap, ap₂, sym, ◌∙◌, subst, inl, inr}
use Rattle.std.proofs.lemmas.List.{append_assoc, append-nil, drop_more, get_or_default, length-map}
use Rattle.std.proofs.lemmas.List.Elements.{recursion_from_All}
use Rattle.std.proofs.lemmas.List.Sorted.{IsPermutation-map}
use Rattle.aggs.specs.Accs.{acc_finishes}
use Rattle.aggs.specs.declared.acc.Acc.{Acc}
use Rattle.aggs.specs.declared.acc.Kind.TheVariants as kind
use Rattle.cells.specs.TupleOrder.{tuple_cmp}
use Rattle.cells.specs.Values.{RowValue}
use Rattle.cells.specs.declared.cell.Cell.{Cell}
use Rattle.cells.specs.declared.total.Total.{Total}
use Rattle.cells.specs.declared.total.Total.TheVariants as total
use Rattle.groups.specs.Accumulators.{accs_of, aggregations_of}
use Rattle.groups.specs.Finishing.{left_by, left_by_all, row_by, rows_by, value_by}
use Rattle.groups.specs.Groups.{cell_at, column_of, holds, is_true, item_value, members, rows_over, set_rows, shown}
use Rattle.groups.specs.Partials.{Stands, StandsAt, StandsEach}
use Rattle.groups.proofs.TuplesLemmas.{all_in_order}
use Rattle.groups.proofs.SetTuplesLemmas.{all_tuples, has_accs}
use Rattle.query.specs.Plans.{PlanTree}
use Rattle.query.specs.Trees.{PredicateTree}
use Rattle.query.specs.Truth.{truth}
use Rattle.query.specs.declared.item.Item.{Item}
use Rattle.query.specs.declared.item.Item.TheVariants as item
use Rattle.query.specs.declared.test.Test.{Test}
use Rattle.query.specs.declared.truth.Truth.{Truth}
use Rattle.query.specs.declared.truth.Truth.TheVariants.{True, False, Unknown}
use Rattle.trie.specs.Digits.{digit_order}
use Rattle.trie.specs.Entries.{IsRising}
use Rattle.trie.specs.Holding.{lent}

-- ---- a predicate
-- what is not true is false or unknown
pub not_true : (t : Truth) → (t ≡ True → ⊥) → false ≡ is_true t
not_true True not = absurd (not refl)
not_true False not = refl
not_true Unknown not = refl

-- ---- a row, item by item
more_values : {x y : Total} {xs ys : List Total} → x ≡ y → xs ≡ ys → x ∷ xs ≡ y ∷ ys
more_values e f = ap₂ (λ (x : Total) (l : List Total). x ∷ l) e f

-- each aggregate meets its own accumulator
pub row_is : (H : Type 0) (set : List ℕ) (tuple : List Cell) (rows : List RowValue) (items : List (Item ℕ)) →
    row_by set tuple items (accs_of {H = H} (aggregations_of items) rows) ≡ map (item_value set tuple rows) items
row_is H set tuple rows [] = refl
row_is H set tuple rows (item.Column c ∷ items) = more_values refl (row_is H set tuple rows items)
row_is H set tuple rows (item.Grouping c ∷ items) = more_values refl (row_is H set tuple rows items)
row_is H set tuple rows (item.CountRows ∷ items) = more_values
    (acc_finishes H kind.CountRows (column_of 0 rows) ∙ ap (λ n. total.Int (pos n)) (length-map rows (cell_at 0))) (row_is H set tuple rows items)
row_is H set tuple rows (item.Count c ∷ items) = more_values (acc_finishes H kind.Count (column_of c rows)) (row_is H set tuple rows items)
row_is H set tuple rows (item.CountDistinct c ∷ items) = more_values (acc_finishes H kind.CountDistinct (column_of c rows)) (row_is H set tuple rows items)
row_is H set tuple rows (item.Sum c ∷ items) = more_values (acc_finishes H kind.Sum (column_of c rows)) (row_is H set tuple rows items)
row_is H set tuple rows (item.Min c ∷ items) = more_values (acc_finishes H kind.Min (column_of c rows)) (row_is H set tuple rows items)
row_is H set tuple rows (item.Max c ∷ items) = more_values (acc_finishes H kind.Max (column_of c rows)) (row_is H set tuple rows items)

-- ---- the rows of groups
-- what is shown of the group of a tuple
abbrev shown_of : List ℕ → PlanTree → List RowValue → List Cell → List (List Total)
shown_of set plan rows t = shown plan (map (item_value set t (members set t rows)) plan.items)

-- ---- the values of some items
module _ {H : Type 0} (set : List ℕ) (tuple : List Cell) where
  -- the value of the item at i, and then those of the items after it
  pub value_more : (items : List (Item ℕ)) (i : ℕ) (item : Item ℕ) (totals new all : List Total) (total : Total) (accs left : List (Acc H)) →
      i < length items → item ≡ get_or items i item → total ≡ value_by set tuple item accs → left ≡ left_by item accs → new ≡ totals ++ total ∷ [] →
      totals ++ row_by set tuple (drop i items) accs ≡ all → new ++ row_by set tuple (drop (i + 1) items) left ≡ all
  value_more items i item totals new all total accs left within at value rest is now =
      let later : List (Item ℕ) = drop (i + 1) items in
      ap (λ l. l ++ row_by set tuple later left) is ∙ append_assoc totals (total ∷ []) (row_by set tuple later left)
      ∙ ap₂ (λ (t : Total) (a : List (Acc H)). totals ++ t ∷ row_by set tuple later a) value rest
      ∙ ap (λ l. totals ++ row_by set tuple l accs) (sym (drop_more items i item within ∙ ap (λ x. x ∷ later) (sym at))) ∙ now

  front_values : (n : ℕ) (items : List (Item ℕ)) (accs : List (Acc H)) → row_by set tuple (take n items) accs ≡ take n (row_by set tuple items accs)
  front_values zero items accs = refl
  front_values (suc n) [] accs = refl
  front_values (suc n) (i ∷ items) accs = ap (λ l. value_by set tuple i accs ∷ l) (front_values n items (left_by i accs))

  values_behind : (n : ℕ) (items : List (Item ℕ)) (accs : List (Acc H)) → row_by set tuple (drop n items) (left_by_all (take n items) accs) ≡ drop n (row_by set tuple items accs)
  values_behind zero items accs = refl
  values_behind (suc n) [] accs = refl
  values_behind (suc n) (i ∷ items) accs = values_behind n items (left_by i accs)

  -- the values that HAVING asks for, of the items behind the select list's
  pub asked_values : (n : ℕ) (items shown asked : List (Item ℕ)) (accs left : List (Acc H)) (values : List Total) → shown ≡ take n items → asked ≡ drop n items → left ≡ left_by_all shown accs →
      values ≡ row_by set tuple asked left → values ≡ drop n (row_by set tuple items accs)
  asked_values n items shown asked accs left values first behind rest is =
      is ∙ ap₂ (λ (l : List (Item ℕ)) (a : List (Acc H)). row_by set tuple l a) behind (rest ∙ ap (λ l. left_by_all l accs) first) ∙ values_behind n items accs

  -- whether HAVING is true for them
  pub having_holds : (having : Option (PredicateTree (Test ℕ))) (p : PredicateTree (Test ℕ)) (n : ℕ) (items shown asked : List (Item ℕ)) (accs left : List (Acc H)) (before values : List Total) (t : Truth) →
      Some p ≡ having → shown ≡ take n items → asked ≡ drop n items → left ≡ left_by_all shown accs → before ≡ [] → values ≡ before ++ row_by set tuple asked left → t ≡ truth p values →
      is_true t ≡ holds having (drop n (row_by set tuple items accs))
  having_holds having p n items shown asked accs left before values t some first behind rest none is said =
      let all = asked_values n items shown asked accs left values first behind rest (is ∙ ap (λ b. b ++ row_by set tuple asked left) none) in
      ap is_true said ∙ ap (λ v. is_true (truth p v)) all ∙ ap (λ h. holds h (drop n (row_by set tuple items accs))) some

  module _ (plan : PlanTree) (accs : List (Acc H)) (b : Bool) (asked : b ≡ holds plan.having (drop (length plan.headings) (row_by set tuple plan.items accs))) where
    -- the values of the select list are shown
    pub group_shown : (row : List Total) (shown_items : List (Item ℕ)) → b ≡ true → shown_items ≡ take (length plan.headings) plan.items → row ≡ row_by set tuple shown_items accs →
        row ∷ [] ≡ shown plan (row_by set tuple plan.items accs)
    group_shown row shown_items on first is =
        ap (λ r. r ∷ []) (is ∙ ap (λ l. row_by set tuple l accs) first ∙ front_values (length plan.headings) plan.items accs)
        ∙ ap (λ c. if c then take (length plan.headings) (row_by set tuple plan.items accs) ∷ [] else []) (sym on ∙ asked)

-- ---- the accumulators that are left, item by item
pub left_more : {H : Type 0} (items : List (Item ℕ)) (i : ℕ) (item : Item ℕ) (accs left all : List (Acc H)) → i < length items → item ≡ get_or items i item → left ≡ left_by item accs →
    left_by_all (drop i items) accs ≡ all → left_by_all (drop (i + 1) items) left ≡ all
left_more items i item accs left all within at is now =
    ap (left_by_all (drop (i + 1) items)) is
    ∙ ap (λ l. left_by_all l accs) (sym (drop_more items i item within ∙ ap (λ x. x ∷ drop (i + 1) items) (sym at))) ∙ now

module _ {H : Type 0} where
  -- the row of the next group, unless HAVING drops it, goes behind those that were made
  pub rows_next : (set : List ℕ) (plan : PlanTree) (x : Bor (List Cell) × Bor (List (Acc H))) (left : List (Bor (List Cell) × Bor (List (Acc H)))) (made more new all : List (List Total)) →
      made ++ rows_by set plan (lent (x ∷ left)) ≡ all → more ≡ shown plan (row_by set x.0.now plan.items x.1.now) → new ≡ made ++ more → new ++ rows_by set plan (lent left) ≡ all
  rows_next set plan x left made more new all now show e =
      ap (λ l. l ++ rows_by set plan (lent left)) (e ∙ ap (λ m. made ++ m) show)
      ∙ append_assoc made (shown plan (row_by set x.0.now plan.items x.1.now)) (rows_by set plan (lent left)) ∙ now

  module _ (hash : List Cell → ℕ) (set : List ℕ) (plan : PlanTree) (rows : List RowValue) where
    -- a group has the accumulators of its tuple's rows
    abbrev HasAccs : List Cell × List (Acc H) → Type 0
    HasAccs g = g.1 ≡ accs_of (aggregations_of plan.items) (members set g.0 rows)

    each_row : (gs : List (List Cell × List (Acc H))) → AllByRecursion HasAccs gs → rows_by set plan gs ≡ flat_map (shown_of set plan rows) (keys_of gs)
    each_row [] all = refl
    each_row (g ∷ gs) all = ap₂ (λ (l m : List (List Total)). l ++ m)
        (ap (shown plan) (ap (row_by set g.0 plan.items) all.0 ∙ row_is H set g.0 (members set g.0 rows) plan.items)) (each_row gs all.1)

    module _ (es : List (List Cell × List (Acc H))) (rising : IsRising (digit_order hash tuple_cmp) (keys_of es))
        (stands : StandsAt hash (aggregations_of plan.items) set rows es) where
      -- in whatever order the groups come with their tuples rising
      pub rows_are : (gs : List (List Cell × List (Acc H))) → IsPermutation es gs → IsSorted tuple_cmp (keys_of gs) → rows_by set plan gs ≡ set_rows plan set rows
      rows_are gs all up = each_row gs
          (all_in_order HasAccs es gs all (recursion_from_All HasAccs es (λ k d h. has_accs hash (aggregations_of plan.items) set rows es rising stands (get_or es k d) (k, h, get_or_default es k (get_or es k d) d h))))
          ∙ ap (flat_map (shown_of set plan rows))
          (all_tuples hash (aggregations_of plan.items) set rows es rising stands (keys_of gs) (IsPermutation-map (λ g. g.0) es gs all) up)

module _ {H : Type 0} where
  -- ---- set by set
  -- the rows so far, with those of the sets that are left, are all rows
  pub record Finishing (hash : List Cell → ℕ) (plan : PlanTree) (tries : List (List (List Cell × List (Acc H))))
      (made : List (List Total)) (left : List (List ℕ)) (later : List (List (List Cell × List (Acc H)))) : Type 0 where
    pub stand : (rows : List RowValue) → Stands hash plan rows tries → StandsEach hash (aggregations_of plan.items) left rows later
    pub same : (rows : List RowValue) → Stands hash plan rows tries → made ++ flat_map (λ set. set_rows plan set rows) left ≡ rows_over plan rows

  module _ (hash : List Cell → ℕ) (plan : PlanTree) (tries : List (List (List Cell × List (Acc H)))) where
    module _ {made : List (List Total)} {left : List (List ℕ)} {later : List (List (List Cell × List (Acc H)))} (now : Finishing hash plan tries made left later) where
      pub finishing_more : {set : List ℕ} {t : List (List Cell × List (Acc H))} {sets : List (List ℕ)} {more : List (List (List Cell × List (Acc H)))} →
          left ≡ set ∷ sets → later ≡ t ∷ more → (new : List (List Total)) →
          ((rows : List RowValue) → StandsAt hash (aggregations_of plan.items) set rows t → new ≡ made ++ set_rows plan set rows) →
          Finishing hash plan tries new sets more
      finishing_more {set} {t} {sets} {more} p q new e =
          let at : (rows : List RowValue) → Stands hash plan rows tries → StandsEach hash (aggregations_of plan.items) (set ∷ sets) rows (t ∷ more) =
          λ rows s. subst (λ l. StandsEach hash (aggregations_of plan.items) l rows (t ∷ more)) p
          (subst (λ l. StandsEach hash (aggregations_of plan.items) left rows l) q (now.stand rows s)) in
          record {
            stand = λ rows s. (at rows s).1;
            same = λ rows s. ap (λ l. l ++ flat_map (λ set. set_rows plan set rows) sets) (e rows (at rows s).0)
                ∙ append_assoc made (set_rows plan set rows) (flat_map (λ set. set_rows plan set rows) sets)
                ∙ ap (λ l. made ++ flat_map (λ set. set_rows plan set rows) l) (sym p) ∙ now.same rows s;
          }

      no_sets : (rows : List RowValue) (ss : List (List ℕ)) (ts : List (List (List Cell × List (Acc H)))) →
          StandsEach hash (aggregations_of plan.items) ss rows ts → (ss ≡ []) ⊎ (ts ≡ []) → ss ≡ []
      no_sets rows [] ts s h = refl
      no_sets rows (c ∷ ss) [] s h = absurd s
      no_sets rows (c ∷ ss) (t ∷ ts) s (inl e) = cc
      no_sets rows (c ∷ ss) (t ∷ ts) s (inr e) = cc

      pub finishing_all : (left ≡ []) ⊎ (later ≡ []) → (rows : List RowValue) → Stands hash plan rows tries → made ≡ rows_over plan rows
      finishing_all h rows s = sym (append-nil made)
          ∙ ap (λ l. made ++ flat_map (λ set. set_rows plan set rows) l) (sym (no_sets rows left later (now.stand rows s) h)) ∙ now.same rows s
