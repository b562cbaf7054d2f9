-- The sources of two foldings put together.
use Rattle.std.specs.Prelude.{◌≡◌, ◌+◌, ◌<◌, ◌≤◌, sum_by, true, List, [], ◌∷◌, ◌++◌, nat_eq, take, refl}
use Rattle.std.specs.Cmp.Lexicographic.{pointwise}
use Rattle.std.specs.List.{AllByRecursion, AllZip, Contains}
use Rattle.std.specs.List.Sorted.{IsPermutation}
use Rattle.std.proofs.Common.{get_or, ℕ, length, ap, ap₂, sym, ◌∙◌, subst, arith}
use Rattle.std.proofs.lemmas.List.{append_assoc, append-nil, get_or-map, length-append, length-map, nil_from_length, take_all, take_more_same}
use Rattle.std.proofs.lemmas.List.Sums.{sum_by-cons}
use Rattle.std.proofs.lemmas.List.Concat.{flat_map-append}
use Rattle.std.proofs.lemmas.List.Sorted.{IsPermutation-append_left, IsPermutation-append_right, IsPermutation-trans, length_permutation}
use Rattle.aggs.specs.Room.{cell_limit}
use Rattle.cells.specs.Values.{RowValue}
use Rattle.groups.specs.Accumulators.{aggregations_of}
use Rattle.groups.specs.Bags.{AreParts, CanJoin, Covers, Group, HasBoth, joined}
use Rattle.groups.specs.Folds.{Folds, MayJoin, MayTakeOthers, TakesOthers, group_count}
use Rattle.groups.specs.Pools.{HaveFiner, IsPool, MayCoarsen, MayCoarsenAll, has_finer, sets_of}
use Rattle.groups.specs.declared.aggregation.Aggregation.{Aggregation}
use Rattle.groups.specs.declared.folding.Folding.{Folding}
use Rattle.groups.specs.declared.pool.SetBag.{SetBag}
use Rattle.groups.proofs.FoldsLemmas.{finer_by_sets}
use Rattle.groups.proofs.PoolLemmas.{same_set}
use Rattle.groups.proofs.TuplesLemmas.{all_at, all_through}
use Rattle.query.specs.Plans.{PlanTree}

module _ {H : Type 0} where
  parts_both : (aggregations : List Aggregation) (columns : List ℕ) (first second : List (Group H)) (ps qs : List (List RowValue)) → AreParts aggregations columns first ps →
      AreParts aggregations columns second qs → AreParts aggregations columns (first ++ second) (ps ++ qs)
  parts_both aggregations columns [] second [] qs one two = two
  parts_both aggregations columns [] second (p ∷ ps) qs one two = absurd one
  parts_both aggregations columns (g ∷ first) second [] qs one two = absurd one
  parts_both aggregations columns (g ∷ first) second (p ∷ ps) qs one two = (one.0, parts_both aggregations columns first second ps qs one.1 two)

  -- groups beside others have the rows of both
  pub covers_both : (aggregations : List Aggregation) (columns : List ℕ) (rows more : List RowValue) (first second : List (Group H)) → Covers aggregations columns rows first →
      Covers aggregations columns more second → Covers aggregations columns (rows ++ more) (first ++ second)
  covers_both aggregations columns rows more first second one two = record {
    parts = one.parts ++ two.parts;
    each = parts_both aggregations columns first second one.parts two.parts one.each two.each;
    all = subst (IsPermutation (rows ++ more)) (sym (flat_map-append (λ (part : List RowValue). part) one.parts two.parts))
        (IsPermutation-trans _ _ _ (IsPermutation-append_left more rows (joined one.parts) one.all) (IsPermutation-append_right (joined one.parts) more (joined two.parts) two.all));
  }

  pub beside_each : (first second both : List (Group H)) → both ≡ first ++ second → HasBoth first second both
  beside_each first second both is = record {
    serves = λ aggregations columns rows more one two.
        subst (Covers aggregations columns (rows ++ more)) (sym is) (covers_both aggregations columns rows more first second one two);
  }

  module _ (others : List (SetBag H)) (source : SetBag H) (may : MayTakeOthers others source) where
    pub others_coarsen : MayCoarsenAll others
    others_coarsen = record {
      aggregations = may.aggregations;
      counted = record { rows = may.more; covers = may.pool; few = omega (arith, may.few) };
    }

    pub both_coarsen : (both : SetBag H) (more : List (Group H)) → both.set.items ≡ source.set.items → both.bag ≡ source.bag ++ more →
        ((aggregations : List Aggregation) (rows : List RowValue) → IsPool aggregations rows others → Covers aggregations source.set.items rows more) → MayCoarsen both
    both_coarsen both more same is made = record {
      aggregations = may.aggregations;
      counted = record {
        rows = may.rows ++ may.more;
        covers = rw (same, is) (covers_both may.aggregations source.set.items may.rows may.more source.bag more may.covers (made may.aggregations may.more may.pool));
        few = omega (arith, may.few, length-append may.rows may.more);
      };
    }

  -- ---- source by source

  -- whatever becomes of the sources that are left, these and those make all
  abbrev pub GoesOn : List (SetBag H) → List (SetBag H) → List (SetBag H) → List (SetBag H) → Type 0
  GoesOn others all joined left = (news : List (SetBag H)) → AllZip (TakesOthers others) left news → AllZip (TakesOthers others) all (joined ++ news)

  pub goes_first : (others all joined : List (SetBag H)) → joined ≡ [] → GoesOn others all joined all
  goes_first others all joined none = λ news zip. rw none zip

  pub goes_more : (others all joined longer old new : List (SetBag H)) (source made : SetBag H) → GoesOn others all joined old → old ≡ source ∷ new → longer ≡ joined ++ made ∷ [] →
      TakesOthers others source made → GoesOn others all longer new
  goes_more others all joined longer old new source made goes took more takes = λ news zip.
      rw (more, append_assoc joined (made ∷ []) news) (goes (made ∷ news) (rw took (takes, zip)))

  pub goes_last : (others all joined left : List (SetBag H)) → left ≡ [] → GoesOn others all joined left → AllZip (TakesOthers others) all joined
  goes_last others all joined left none goes = subst (AllZip (TakesOthers others) all) (append-nil joined) (goes [] (rw none tt))

  -- ---- foldings

  zip_sets : (others old new : List (SetBag H)) → AllZip (TakesOthers others) old new → sets_of new ≡ sets_of old
  zip_sets others [] [] zip = refl
  zip_sets others [] (n ∷ new) zip = absurd zip
  zip_sets others (o ∷ old) [] zip = absurd zip
  zip_sets others (o ∷ old) (n ∷ new) zip = ap₂ (λ (s : List ℕ) (rest : List (List ℕ)). s ∷ rest) (zip.0).set_stays (zip_sets others old new zip.1)

  zip_covers : (aggregations : List Aggregation) (rows more : List RowValue) (others old new : List (SetBag H)) → AllZip (TakesOthers others) old new → IsPool aggregations more others →
      AllByRecursion (λ (f : SetBag H). Covers aggregations f.set.items rows f.bag) old → AllByRecursion (λ (f : SetBag H). Covers aggregations f.set.items (rows ++ more) f.bag) new
  zip_covers aggregations rows more others [] [] zip pool all = tt
  zip_covers aggregations rows more others [] (n ∷ new) zip pool all = absurd zip
  zip_covers aggregations rows more others (o ∷ old) [] zip pool all = absurd zip
  zip_covers aggregations rows more others (o ∷ old) (n ∷ new) zip pool all = (
    subst (λ (s : List ℕ). Covers aggregations s (rows ++ more) n.bag) (sym (zip.0).set_stays) ((zip.0).serves aggregations rows more all.0 pool),
    zip_covers aggregations rows more others old new zip.1 pool all.1,
  )

  pub folds_join : (plan : PlanTree) (rows more : List RowValue) (first second new : Folding H) → Folds plan rows first → Folds plan more second → new.plan.now ≡ first.plan.now →
      new.aggregations.items ≡ first.aggregations.items → (others : List (SetBag H)) → others ≡ second.sources.items → AllZip (TakesOthers others) first.sources.items new.sources.items →
      Folds plan (rows ++ more) new
  folds_join plan rows more first second new one two same_plan same_aggregations others are zip = record {
    planned = same_plan ∙ one.planned;
    aggregations = same_aggregations ∙ one.aggregations;
    finer = all_through _ _ (λ s f. finer_by_sets s first.sources.items new.sources.items sets ∙ f) plan.sets one.finer;
    among = subst (AllByRecursion (Contains plan.sets)) (sym sets) one.among;
    covers = record { each = zip_covers (aggregations_of plan.items) rows more others first.sources.items new.sources.items zip (rw are two.covers) (one.covers).each };
  }
    where
      sets : sets_of new.sources.items ≡ sets_of first.sources.items
      sets = zip_sets others first.sources.items new.sources.items zip

  join_each : (aggregations : List Aggregation) (rows more : List RowValue) (sets : List (List ℕ)) (others : List (SetBag H)) → IsPool aggregations more others → HaveFiner others sets →
      length rows + length more ≤ cell_limit → (sources : List (SetBag H)) → AllByRecursion (Contains sets) (sets_of sources) →
      AllByRecursion (λ (f : SetBag H). Covers aggregations f.set.items rows f.bag) sources → AllByRecursion (MayTakeOthers others) sources
  join_each aggregations rows more sets others pool finer few [] among covers = tt
  join_each aggregations rows more sets others pool finer few (f ∷ sources) among covers = (
    record {
      aggregations = aggregations;
      rows = rows;
      more = more;
      covers = covers.0;
      pool = pool;
      few = few;
      finer = subst (λ s. has_finer others s ≡ true) (among.0).2 (all_at (λ s. has_finer others s ≡ true) sets (among.0).0 f.set.items finer (among.0).1);
    },
    join_each aggregations rows more sets others pool finer few sources among.1 covers.1,
  )

  pub may_take_others : (first second : Folding H) (others : List (SetBag H)) → others ≡ second.sources.items → MayJoin first second →
      AllByRecursion (MayTakeOthers others) first.sources.items
  may_take_others first second others are may =
      join_each (aggregations_of (may.plan).items) may.rows may.more (may.plan).sets others (rw are (may.seconds).covers) (rw are (may.seconds).finer) may.few
      first.sources.items (may.firsts).among ((may.firsts).covers).each

  -- ---- a folding of no rows

  covers_nothing : (aggregations : List Aggregation) (columns : List ℕ) (rows : List RowValue) (groups : List (Group H)) (parts : List (List RowValue)) → groups ≡ [] →
      AreParts aggregations columns groups parts → IsPermutation rows (joined parts) → rows ≡ []
  covers_nothing aggregations columns rows [] [] none are moved = nil_from_length rows (sym (length_permutation rows [] moved))
  covers_nothing aggregations columns rows [] (p ∷ parts) none are moved = absurd are
  covers_nothing aggregations columns rows (g ∷ groups) parts none are moved = absurd (cc)

  -- where there is a set, there are sources: they have groups, or no rows went in
  no_rows_in : (aggregations : List Aggregation) (rows more : List RowValue) (sets : List (List ℕ)) (sources others : List (SetBag H)) → HaveFiner sources sets →
      AllByRecursion (Contains sets) (sets_of others) → IsPool aggregations rows sources → sum_by (λ s. length s.bag) sources ≡ 0 → IsPool aggregations more others →
      IsPool aggregations (rows ++ more) others
  no_rows_in aggregations rows more [] sources [] finer among pool none pooled = record { each = tt }
  no_rows_in aggregations rows more [] sources (o ∷ others) finer among pool none pooled = absurd (omega (arith, (among.0).1))
  no_rows_in aggregations rows more (set ∷ sets) [] others finer among pool none pooled = absurd (let never = finer.0 in cc)
  no_rows_in aggregations rows more (set ∷ sets) (f ∷ sources) others finer among pool none pooled =
      let empty : f.bag ≡ [] = nil_from_length f.bag (omega (arith, none, sum_by-cons (λ (s : SetBag H). length s.bag) f sources)) in
      let covers = (pool.each).0 in
      let nothing : rows ≡ [] = covers_nothing aggregations f.set.items rows f.bag covers.parts empty covers.each covers.all in
      rw nothing pooled

  pub joins_nothing : (first second : Folding H) → group_count first ≡ 0 → (plan : PlanTree) (rows more : List RowValue) → Folds plan rows first → Folds plan more second →
      Folds plan (rows ++ more) second
  joins_nothing first second none plan rows more one two = record {
    planned = two.planned;
    aggregations = two.aggregations;
    finer = two.finer;
    among = two.among;
    covers = no_rows_in (aggregations_of plan.items) rows more plan.sets first.sources.items second.sources.items one.finer two.among one.covers none two.covers;
  }

-- ---- sources of the same sets
module _ {H : Type 0} where
  -- the sets of the first sources are those of the others
  pub record SameTo (at : ℕ) (sources others : List (SetBag H)) : Type 0 where
    pub same : take at (sets_of others) ≡ take at (sets_of sources)

  pub same_more : (at : ℕ) (sources others : List (SetBag H)) (s o : SetBag H) (x y : List ℕ) → length sources ≡ length others → at < length sources → x ≡ (get_or sources at s).set.items →
      y ≡ (get_or others at o).set.items → pointwise nat_eq x y ≡ true → SameTo at sources others → SameTo (at + 1) sources others
  same_more at sources others s o x y count h p q e now =
      let n : at < length (sets_of sources) = omega (arith, h, length-map sources (λ (f : SetBag H). f.set.items)) in
      let m : at < length (sets_of others) = omega (arith, h, count, length-map others (λ (f : SetBag H). f.set.items)) in
      let within : at < length others = omega (arith, h, count) in
      record {
        same = take_more_same (sets_of others) (sets_of sources) at [] m n now.same
            (get_or-map (λ (f : SetBag H). f.set.items) others at o [] within ∙ sym q ∙ sym (same_set x y e) ∙ p
            ∙ sym (get_or-map (λ (f : SetBag H). f.set.items) sources at s [] h));
      }

  -- the last of the others are beside the sources that are left
  pub record AreBeside (others left lasts : List (SetBag H)) : Type 0 where
    pub may : AllByRecursion (MayTakeOthers others) left
    pub sets : sets_of lasts ≡ sets_of left
    pub inside : (aggregations : List Aggregation) (rows : List RowValue) → IsPool aggregations rows others → IsPool aggregations rows lasts

  pub beside_first : (others sources left lasts : List (SetBag H)) → left ≡ sources → lasts ≡ others → AllByRecursion (MayTakeOthers others) sources → sets_of others ≡ sets_of sources →
      AreBeside others left lasts
  beside_first others sources left lasts p q may same = rw (p, q) (record { may = may; sets = same; inside = λ aggregations rows pool. pool })

  module _ (others old left lasts later : List (SetBag H)) (source other : SetBag H) (next : old ≡ source ∷ left) (after : lasts ≡ other ∷ later) (now : AreBeside others old lasts) where
    here : AreBeside others (source ∷ left) (other ∷ later)
    here = subst (λ l. AreBeside others l (other ∷ later)) next (subst (AreBeside others old) after now)

    its_set : other.set.items ≡ source.set.items
    its_set = ap (first_or other.set.items) (here.sets)
      where
        first_or : List ℕ → List (List ℕ) → List ℕ
        first_or d [] = d
        first_or d (s ∷ sets) = s

    its_rows : (aggregations : List Aggregation) (rows : List RowValue) → IsPool aggregations rows others → Covers aggregations source.set.items rows other.bag
    its_rows aggregations rows pool = subst (λ s. Covers aggregations s rows other.bag) its_set ((here.inside aggregations rows pool).each).0

    pub beside_next : AreBeside others left later
    beside_next = record {
      may = (here.may).1;
      sets = ap rest_of here.sets;
      inside = λ aggregations rows pool. record { each = ((here.inside aggregations rows pool).each).1 };
    }
      where
        rest_of : List (List ℕ) → List (List ℕ)
        rest_of [] = []
        rest_of (s ∷ sets) = sets

    pub beside_join : CanJoin source.bag other.bag
    beside_join = let may = (here.may).0 in record {
      aggregations = may.aggregations;
      columns = source.set.items;
      rows = may.rows;
      more = may.more;
      firsts = may.covers;
      seconds = its_rows may.aggregations may.more may.pool;
      few = may.few;
    }

    pub beside_takes : (made : SetBag H) → made.set.items ≡ source.set.items → HasBoth source.bag other.bag made.bag → TakesOthers others source made
    beside_takes made stays both = record {
      set_stays = stays;
      serves = λ aggregations rows more covers pool. both.serves aggregations source.set.items rows more covers (its_rows aggregations more pool);
    }
