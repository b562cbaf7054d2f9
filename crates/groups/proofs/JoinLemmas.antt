-- Groups of two lists of rows put together.
use Rattle.std.specs.Prelude.{◌≡◌, ℕ, ◌+◌, ◌≤◌, ◌⊎◌, Bool, true, false, List, [], ◌∷◌, ◌++◌, cond, length, IfSome, Option, Some, None, refl}
use Rattle.std.specs.List.{AllByRecursion}
use Rattle.std.specs.List.Sorted.{IsPermutation}
use Rattle.std.specs.Map.{keys_of, lookup}
use Rattle.std.proofs.Common.{ap, sym, ◌∙◌, subst, arith, inl, inr}
use Rattle.std.proofs.lemmas.List.{append_assoc, append-nil}
use Rattle.std.proofs.lemmas.Bool.{cases_Bool}
use Rattle.std.proofs.lemmas.Option.{same_Some}
use Rattle.aggs.specs.Room.{cell_limit}
use Rattle.aggs.specs.declared.acc.Acc.{Acc}
use Rattle.cells.specs.SameKeys.{same_tuples}
use Rattle.cells.specs.TupleOrder.{tuple_cmp, tuple_eq}
use Rattle.cells.specs.Values.{RowValue}
use Rattle.cells.specs.declared.cell.Cell.{Cell}
use Rattle.groups.specs.Accumulators.{AllFit, accs_of, accs_together, aggregations_of, both, group, group_or, is_start}
use Rattle.groups.specs.Groups.{members, tuple_of}
use Rattle.groups.specs.Joining.{Joins, JoinsEach, MeetsAt}
use Rattle.groups.specs.Laws.{group_any_order, group_joins, kept_short}
use Rattle.groups.specs.Partials.{MayMeet, Stands, StandsAt, StandsEach}
use Rattle.groups.specs.declared.aggregation.Aggregation.{Aggregation}
use Rattle.groups.proofs.BagLemmas.{all_fit}
use Rattle.groups.proofs.OrderLemmas.{value_by_tuple}
use Rattle.groups.proofs.SetTuplesLemmas.{stands_short}
use Rattle.groups.proofs.TuplesLemmas.{all_push}
use Rattle.query.specs.Plans.{PlanTree}
use Rattle.trie.specs.Digits.{digit_order}
use Rattle.trie.specs.Entries.{IsRising, value_at}
use Rattle.trie.specs.Merging.{CanBlend, blended}

module _ {H : Type 0} where
  some_is : (aggregations : List Aggregation) (start : Bool) (rows : List RowValue) (a : List (Acc H)) → group_or aggregations start rows ≡ Some a →
      a ≡ accs_of aggregations rows
  some_is aggregations true [] a e = cc
  some_is aggregations false [] a e = cc
  some_is aggregations true (r ∷ rows) a e = cc
  some_is aggregations false (r ∷ rows) a e = cc

  blended_both : (a b : Option (List (Acc H))) → blended accs_together a b ≡ both a b
  blended_both None b = refl
  blended_both (Some a) None = refl
  blended_both (Some a) (Some b) = refl

  module _ (hash : List Cell → ℕ) where
    pub meets_can : (first second : List (List Cell × List (Acc H))) → MeetsAt hash first second → CanBlend (digit_order hash tuple_cmp) AllFit first second
    meets_can first second m = record {
      can = λ q u v e f.
          let xs = members m.set q m.xs in
          let ys = members m.set q m.ys in
          let p = some_is m.aggregations (is_start m.set q) xs u (sym (m.of_first.gives q) ∙ e) in
          let r = some_is m.aggregations (is_start m.set q) ys v (sym (m.of_second.gives q) ∙ f) in
          subst (λ w. AllFit w v) (sym p) (subst (AllFit (accs_of m.aggregations xs)) (sym r)
          (all_fit H m.aggregations xs ys (omega (arith, m.few, kept_short (λ r. tuple_eq (tuple_of m.set r) q) m.xs, kept_short (λ r. tuple_eq (tuple_of m.set r) q) m.ys))));
    }

    pub meets_room : (first second : List (List Cell × List (Acc H))) → IsRising (digit_order hash tuple_cmp) (keys_of first) →
        IsRising (digit_order hash tuple_cmp) (keys_of second) → MeetsAt hash first second → length first + length second ≤ cell_limit + 2
    meets_room first second r s m =
        omega (arith, m.few, stands_short hash m.aggregations m.set m.xs first r m.of_first, stands_short hash m.aggregations m.set m.ys second s m.of_second)

    stands_joined : (aggregations : List Aggregation) (set : List ℕ) (xs ys : List RowValue) (a b c : List (List Cell × List (Acc H))) →
        StandsAt hash aggregations set xs a → StandsAt hash aggregations set ys b → Joins hash a b c → StandsAt hash aggregations set (xs ++ ys) c
    stands_joined aggregations set xs ys a b c s t j = record {
      gives = λ q. j.values q ∙ blended_both (value_at (digit_order hash tuple_cmp) a q) (value_at (digit_order hash tuple_cmp) b q)
          ∙ ap (λ o. both o (value_at (digit_order hash tuple_cmp) b q)) (s.gives q) ∙ ap (both (group aggregations set xs q)) (t.gives q)
          ∙ sym (group_joins aggregations set q xs ys);
    }

    -- what each group of the first fits, if the other has its tuple
    fits_at : (second es : List (List Cell × List (Acc H))) (q : List Cell) (u v : List (Acc H)) → lookup (tuple_eq q) es ≡ Some u → value_at (digit_order hash tuple_cmp) second q ≡ Some v →
        AllByRecursion (λ e. IfSome (value_at (digit_order hash tuple_cmp) second e.0) (AllFit e.1)) es → AllFit u v
    fits_at second [] q u v e f all = absurd (cc)
    fits_at second (x ∷ es) q u v e f all = elim (cases_Bool (tuple_eq q x.0)) [
      | inl same ↦
          let here : q ≡ x.0 = same_tuples q x.0 same in
          let is : u ≡ x.1 = same_Some _ _ (sym e ∙ ap (λ b. cond b (Some x.1) (lookup (tuple_eq q) es)) same) in
          let fits : AllFit x.1 v = subst (λ o. IfSome o (AllFit x.1)) (ap (value_at (digit_order hash tuple_cmp) second) (sym here) ∙ f) all.0 in
          subst (λ w. AllFit w v) (sym is) fits
      | inr other ↦ fits_at second es q u v (sym (ap (λ b. cond b (Some x.1) (lookup (tuple_eq q) es)) other) ∙ e) f all.1
    ]

    pub fits_each : (first second : List (List Cell × List (Acc H))) → AllByRecursion (λ e. IfSome (value_at (digit_order hash tuple_cmp) second e.0) (AllFit e.1)) first →
        CanBlend (digit_order hash tuple_cmp) AllFit first second
    fits_each first second all = record { can = λ q u v e f. fits_at second first q u v (sym (value_by_tuple hash first q) ∙ e) f all }

    -- the groups that are not left fit
    pub record FitSoFar (first second left : List (List Cell × List (Acc H))) : Type 0 where
      pub front : List (List Cell × List (Acc H))
      pub cut : first ≡ front ++ left
      pub fit : AllByRecursion (λ e. IfSome (value_at (digit_order hash tuple_cmp) second e.0) (AllFit e.1)) front

    pub fit_more : (first second old left : List (List Cell × List (Acc H))) (e : List Cell × List (Acc H)) → FitSoFar first second old → old ≡ e ∷ left →
        IfSome (value_at (digit_order hash tuple_cmp) second e.0) (AllFit e.1) → FitSoFar first second left
    fit_more first second old left e now took fits = record {
      front = now.front ++ e ∷ [];
      cut = now.cut ∙ ap (λ l. now.front ++ l) took ∙ sym (append_assoc now.front (e ∷ []) left);
      fit = all_push _ now.front e now.fit fits;
    }

    pub fit_all : (first second left : List (List Cell × List (Acc H))) → FitSoFar first second left → left ≡ [] → CanBlend (digit_order hash tuple_cmp) AllFit first second
    fit_all first second left now none = fits_each first second
        (subst (AllByRecursion (λ e. IfSome (value_at (digit_order hash tuple_cmp) second e.0) (AllFit e.1))) (sym (now.cut ∙ ap (λ l. now.front ++ l) none ∙ append-nil now.front)) now.fit)

    -- ---- set by set
    joined_each : (aggregations : List Aggregation) (xs ys : List RowValue) (sets : List (List ℕ)) (firsts seconds new : List (List (List Cell × List (Acc H)))) →
        StandsEach hash aggregations sets xs firsts → StandsEach hash aggregations sets ys seconds → JoinsEach hash firsts seconds new →
        StandsEach hash aggregations sets (xs ++ ys) new
    joined_each aggregations xs ys [] [] [] [] s t j = tt
    joined_each aggregations xs ys [] [] [] (n ∷ new) s t j = cc
    joined_each aggregations xs ys [] [] (b ∷ seconds) new s t j = absurd t
    joined_each aggregations xs ys [] (a ∷ firsts) seconds new s t j = absurd s
    joined_each aggregations xs ys (c ∷ sets) [] seconds new s t j = absurd s
    joined_each aggregations xs ys (c ∷ sets) (a ∷ firsts) [] new s t j = absurd t
    joined_each aggregations xs ys (c ∷ sets) (a ∷ firsts) (b ∷ seconds) [] s t j = absurd j
    joined_each aggregations xs ys (c ∷ sets) (a ∷ firsts) (b ∷ seconds) (n ∷ new) s t j =
        (stands_joined aggregations c xs ys a b n s.0 t.0 j.0, joined_each aggregations xs ys sets firsts seconds new s.1 t.1 j.1)

    pub joined_stand : (plan : PlanTree) (xs ys : List RowValue) (firsts seconds new : List (List (List Cell × List (Acc H)))) →
        Stands hash plan xs firsts → Stands hash plan ys seconds → JoinsEach hash firsts seconds new → Stands hash plan (xs ++ ys) new
    joined_stand plan xs ys firsts seconds new s t j = record {
      each = joined_each (aggregations_of plan.items) xs ys plan.sets firsts seconds new s.each t.each j;
    }

    each_any_order : (aggregations : List Aggregation) (xs ys : List RowValue) → IsPermutation xs ys → (sets : List (List ℕ)) (tries : List (List (List Cell × List (Acc H)))) →
        StandsEach hash aggregations sets xs tries → StandsEach hash aggregations sets ys tries
    each_any_order aggregations xs ys p [] [] s = tt
    each_any_order aggregations xs ys p [] (t ∷ tries) s = absurd s
    each_any_order aggregations xs ys p (c ∷ sets) [] s = absurd s
    each_any_order aggregations xs ys p (c ∷ sets) (t ∷ tries) s = (
      record { gives = λ q. (s.0).gives q ∙ group_any_order aggregations c q xs ys p },
      each_any_order aggregations xs ys p sets tries s.1,
    )

    pub stands_any_order : (plan : PlanTree) (xs ys : List RowValue) (tries : List (List (List Cell × List (Acc H)))) → IsPermutation xs ys →
        Stands hash plan xs tries → Stands hash plan ys tries
    stands_any_order plan xs ys tries p s = record { each = each_any_order (aggregations_of plan.items) xs ys p plan.sets tries s.each }

    -- ---- the loop over the sets of both
    -- both stand for rows that may be put together
    pub record Meets (firsts seconds : List (List (List Cell × List (Acc H)))) : Type 0 where
      pub aggregations : List Aggregation
      pub sets : List (List ℕ)
      pub xs : List RowValue
      pub ys : List RowValue
      pub few : length xs + length ys ≤ cell_limit
      pub of_firsts : StandsEach hash aggregations sets xs firsts
      pub of_seconds : StandsEach hash aggregations sets ys seconds

    -- what is joined so far, and what is left of both
    pub record JoiningTries (firsts seconds made xs ys : List (List (List Cell × List (Acc H)))) : Type 0 where
      pub then : (rest : List (List (List Cell × List (Acc H)))) → JoinsEach hash xs ys rest → JoinsEach hash firsts seconds (made ++ rest)
      pub meets : MayMeet hash firsts seconds → Meets xs ys

    pub joining_first : (firsts seconds made : List (List (List Cell × List (Acc H)))) → made ≡ [] →
        JoiningTries firsts seconds made firsts seconds
    joining_first firsts seconds made e =
        subst (λ m. JoiningTries firsts seconds m firsts seconds) (sym e) (record {
          then = λ rest j. j;
          meets = λ may. record {
            aggregations = aggregations_of may.plan.items;
            sets = may.plan.sets;
            xs = may.xs;
            ys = may.ys;
            few = may.few;
            of_firsts = may.firsts.each;
            of_seconds = may.seconds.each;
          };
        })

    module _ (x y : List (List Cell × List (Acc H))) (more later : List (List (List Cell × List (Acc H)))) (m : Meets (x ∷ more) (y ∷ later)) where
      -- the first set of both, and those behind it
      meets_each : (sets : List (List ℕ)) → StandsEach hash m.aggregations sets m.xs (x ∷ more) → StandsEach hash m.aggregations sets m.ys (y ∷ later) →
          MeetsAt hash x y × Meets more later
      meets_each [] s t = absurd s
      meets_each (c ∷ sets) s t = (
        record { aggregations = m.aggregations; set = c; xs = m.xs; ys = m.ys; few = m.few; of_first = s.0; of_second = t.0 },
        record { aggregations = m.aggregations; sets = sets; xs = m.xs; ys = m.ys; few = m.few; of_firsts = s.1; of_seconds = t.1 },
      )

    module _ {firsts seconds made xs ys : List (List (List Cell × List (Acc H)))} (now : JoiningTries firsts seconds made xs ys) where
      module _ {x y : List (List Cell × List (Acc H))} {more later : List (List (List Cell × List (Acc H)))} (p : xs ≡ x ∷ more) (q : ys ≡ y ∷ later) where
        here : JoiningTries firsts seconds made (x ∷ more) (y ∷ later)
        here = subst (λ l. JoiningTries firsts seconds made l (y ∷ later)) p (subst (λ l. JoiningTries firsts seconds made xs l) q now)

        meeting : MayMeet hash firsts seconds → MeetsAt hash x y × Meets more later
        meeting may = let m = here.meets may in meets_each x y more later m m.sets m.of_firsts m.of_seconds

        pub joining_may : MayMeet hash firsts seconds → MeetsAt hash x y
        joining_may may = (meeting may).0

        pub joining_more : (v : List (List Cell × List (Acc H))) (new : List (List (List Cell × List (Acc H)))) → Joins hash x y v → new ≡ made ++ v ∷ [] →
            JoiningTries firsts seconds new more later
        joining_more v new j e = subst (λ n. JoiningTries firsts seconds n more later) (sym e) (record {
          then = λ rest k. subst (JoinsEach hash firsts seconds) (sym (append_assoc made (v ∷ []) rest)) (here.then (v ∷ rest) (j, k));
          meets = λ may. (meeting may).1;
        })

      end_joins : (us vs : List (List (List Cell × List (Acc H)))) → (us ≡ []) ⊎ (vs ≡ []) → JoinsEach hash us vs []
      end_joins [] vs h = refl
      end_joins (u ∷ us) [] h = refl
      end_joins (u ∷ us) (v ∷ vs) (inl e) = cc
      end_joins (u ∷ us) (v ∷ vs) (inr e) = cc

      pub joining_all : (xs ≡ []) ⊎ (ys ≡ []) → JoinsEach hash firsts seconds made
      joining_all h = subst (JoinsEach hash firsts seconds) (append-nil made) (now.then [] (end_joins xs ys h))
