-- What partial results tell of rows, and what is made of that again.
use Rattle.std.specs.Prelude.{◌≡◌, suc, ◌⊎◌, ◌||◌, ◌&&◌, ℕ, Bool, true, false, not, cond, List, [], ◌∷◌, ◌++◌, length, map, Option, Some, None, MatchOption, refl}
use Rattle.std.specs.FinMap as map
use Rattle.std.specs.FinMap.{empty, get, get-insert, insert}
use Rattle.std.specs.List.{AllByRecursion, AllZip, fold}
use Rattle.std.specs.List.Sorted.{IsPermutation, IsSorted}
use Rattle.std.specs.Map.{keys_of}
use Rattle.std.proofs.Common.{inl, inr, get_or, ap, ap₂, sym, ◌∙◌, subst}
use Rattle.std.proofs.lemmas.List.{append_assoc, append-nil, get_or_default}
use Rattle.std.proofs.lemmas.List.Elements.{recursion_from_All}
use Rattle.std.proofs.lemmas.List.Sorted.{IsPermutation-map}
use Rattle.aggs.specs.Accs.{acc_kind, acc_of, kind_of}
use Rattle.aggs.specs.Keeping.{IsKept, kept_again}
use Rattle.aggs.specs.declared.acc.Acc.{Acc}
use Rattle.aggs.specs.declared.kept.Kept.{Kept}
use Rattle.cells.specs.SameKeys.{same_tuples}
use Rattle.cells.specs.TupleOrder.{tuple_cmp, tuple_cmp-total, tuple_eq}
use Rattle.cells.specs.Values.{RowValue}
use Rattle.cells.specs.declared.cell.Cell.{Cell}
use Rattle.groups.specs.Accumulators.{AllFit, accs_of, aggregations_of, group, is_start, no_rows}
use Rattle.groups.specs.Groups.{column_of, members, tuples}
use Rattle.groups.specs.Partials.{Stands, StandsAt, StandsEach}
use Rattle.groups.specs.Told.{AreKept, AreTold, GroupValue, Keep, Keeps, Tells, TellsGroup, TellsSet, accs_of_kept, and_acc, and_pair, pairs_of}
use Rattle.groups.specs.declared.aggregation.Aggregation.{Aggregation}
use Rattle.groups.proofs.SetTuplesLemmas.{all_tuples, among, among_tuples, has_accs, has_group}
use Rattle.groups.proofs.TuplesLemmas.{all_in_order}
use Rattle.query.specs.Plans.{PlanTree}
use Rattle.trie.specs.Digits.{digit_order}
use Rattle.trie.specs.Entries.{IsRising, value_at}
use Rattle.trie.specs.Maps.{map_of}

-- one more of both
pub zip_more : {A B : Type 0} (R : A → B → Type 0) (xs : List A) (ys : List B) (x : A) (y : B) → AllZip R xs ys → R x y → AllZip R (xs ++ x ∷ []) (ys ++ y ∷ [])
zip_more R [] [] x y zip last = (last, tt)
zip_more R [] (v ∷ ys) x y zip last = absurd zip
zip_more R (u ∷ xs) [] x y zip last = absurd zip
zip_more R (u ∷ xs) (v ∷ ys) x y zip last = (zip.0, zip_more R xs ys x y zip.1 last)

-- what was made, before what is made of what is left
abbrev pub before : {A : Type 0} → List A → Option (List A) → Option (List A)
before xs None = None
before xs (Some ys) = Some (xs ++ ys)

or_false : (b : Bool) → (b || false) ≡ b
or_false true = refl
or_false false = refl

-- the groups, each with the accumulators of its rows
abbrev with_accs : (G : Type 0) → List Aggregation → List ℕ → List RowValue → List GroupValue → List (List Cell × List (Acc G))
with_accs G aggregations set rows groups = map (λ g. (g.tuple, accs_of aggregations (members set g.tuple rows))) groups

keys_told : (G : Type 0) (aggregations : List Aggregation) (set : List ℕ) (rows : List RowValue) (groups : List GroupValue) → keys_of (with_accs G aggregations set rows groups) ≡ map (λ g. g.tuple) groups
keys_told G aggregations set rows [] = refl
keys_told G aggregations set rows (g ∷ groups) = ap (λ l. g.tuple ∷ l) (keys_told G aggregations set rows groups)

each_told : (G : Type 0) (aggregations : List Aggregation) (set : List ℕ) (rows : List RowValue) (groups : List GroupValue) →
    AllByRecursion (λ (g : List Cell × List (Acc G)). g.1 ≡ accs_of aggregations (members set g.0 rows)) (with_accs G aggregations set rows groups)
each_told G aggregations set rows [] = tt
each_told G aggregations set rows (g ∷ groups) = (refl, each_told G aggregations set rows groups)

-- both are as long
pub as_long : {A B : Type 0} (R : A → B → Type 0) (xs : List A) (ys : List B) → AllZip R xs ys → length xs ≡ length ys
as_long R [] [] zip = refl
as_long R [] (y ∷ ys) zip = absurd zip
as_long R (x ∷ xs) [] zip = absurd zip
as_long R (x ∷ xs) (y ∷ ys) zip = ap suc (as_long R xs ys zip.1)

module _ {H : Type 0} where
  -- ---- what is kept
  keeps_of : (k : Acc H) (a : Aggregation) (rows : List RowValue) (e : Kept) → Keeps k e → k ≡ acc_of a.kind (column_of a.column rows) → IsKept a.kind (column_of a.column rows) e
  keeps_of k a rows e keeps is =
      let same : kind_of k ≡ a.kind = ap kind_of is ∙ acc_kind H a.kind (column_of a.column rows) in
      subst (λ j. IsKept j (column_of a.column rows) e) same
      (keeps.keeps (column_of a.column rows) (is ∙ ap (λ j. acc_of j (column_of a.column rows)) (sym same)))

  pub all_keep : (aggregations : List Aggregation) (rows : List RowValue) (accs : List (Acc H)) (kepts : List Kept) → Keep accs kepts → accs ≡ accs_of aggregations rows → AreKept aggregations rows kepts
  all_keep [] rows [] [] keep is = tt
  all_keep [] rows [] (k ∷ kepts) keep is = absurd keep
  all_keep [] rows (x ∷ accs) kepts keep is = absurd (cc)
  all_keep (a ∷ aggregations) rows [] kepts keep is = absurd (cc)
  all_keep (a ∷ aggregations) rows (x ∷ accs) [] keep is = absurd keep
  all_keep (a ∷ aggregations) rows (x ∷ accs) (k ∷ kepts) keep is = (keeps_of x a rows k keep.0 (cc), all_keep aggregations rows accs kepts keep.1 (cc))

  -- what is kept of rows makes their accumulators
  pub made_again : (aggregations : List Aggregation) (rows : List RowValue) (kepts : List Kept) → AreKept aggregations rows kepts → accs_of_kept {H = H} aggregations kepts ≡ Some (accs_of aggregations rows)
  made_again [] rows [] are = refl
  made_again [] rows (k ∷ kepts) are = absurd are
  made_again (a ∷ aggregations) rows [] are = absurd are
  made_again (a ∷ aggregations) rows (k ∷ kepts) are =
      ap₂ and_acc (kept_again a.kind (column_of a.column rows) k are.0) (made_again aggregations rows kepts are.1)

  pub no_acc : (accs : List (Acc H)) (one : Option (Acc H)) (o : Option (List (Acc H))) → one ≡ None → before accs (and_acc one o) ≡ None
  no_acc accs one o is = ap (λ (x : Option (Acc H)). before accs (and_acc x o)) is

  -- ---- groups, one by one
  -- some groups were told, and the others are left
  pub record ToldSoFar (all left : List (List Cell × List (Acc H))) (told : List GroupValue) : Type 0 where
    pub front : List (List Cell × List (Acc H))
    pub cut : all ≡ front ++ left
    pub are : AreTold front told

  pub told_more : (all old left : List (List Cell × List (Acc H))) (g : List Cell × List (Acc H)) (told new : List GroupValue) (t : GroupValue) → ToldSoFar all old told → old ≡ g ∷ left →
      t.tuple ≡ g.0 → Keep g.1 t.kept → new ≡ told ++ t ∷ [] → ToldSoFar all left new
  told_more all old left g told new t now took tuple keep is = record {
    front = now.front ++ g ∷ [];
    cut = now.cut ∙ ap (λ l. now.front ++ l) took ∙ sym (append_assoc now.front (g ∷ []) left);
    are = subst (AreTold (now.front ++ g ∷ [])) (sym is) (zip_more _ now.front told g t now.are (tuple, keep));
  }

  -- ---- whether accumulators fit
  -- all fit where those that are left do
  pub record Fitting (firsts seconds xs ys : List (Acc H)) : Type 0 where
    pub then : AllFit xs ys → AllFit firsts seconds
    pub left : AllFit firsts seconds → AllFit xs ys

  pub fitting_all : {firsts seconds xs ys : List (Acc H)} → Fitting firsts seconds xs ys → (xs ≡ []) ⊎ (ys ≡ []) → AllFit firsts seconds
  fitting_all {firsts} {seconds} {xs} {ys} now h = now.then (none xs ys h)
    where
      none : (us vs : List (Acc H)) → (us ≡ []) ⊎ (vs ≡ []) → AllFit us vs
      none [] vs h = tt
      none (u ∷ us) [] h = tt
      none (u ∷ us) (v ∷ vs) (inl e) = absurd (cc)
      none (u ∷ us) (v ∷ vs) (inr e) = absurd (cc)

  -- ---- the groups of a set
  module _ (hash : List Cell → ℕ) (aggregations : List Aggregation) (set : List ℕ) (rows : List RowValue) where
    tells_each : (groups : List (List Cell × List (Acc H))) (told : List GroupValue) → AreTold groups told → AllByRecursion (λ g. g.1 ≡ accs_of aggregations (members set g.0 rows)) groups →
        (map (λ t. t.tuple) told ≡ keys_of groups) × AllByRecursion (TellsGroup aggregations set rows) told
    tells_each [] [] are all = (refl, tt)
    tells_each [] (t ∷ told) are all = absurd are
    tells_each (g ∷ groups) [] are all = absurd are
    tells_each (g ∷ groups) (t ∷ told) are all =
        let more = tells_each groups told are.1 all.1 in (
          ap₂ (λ (x : List Cell) (l : List (List Cell)). x ∷ l) (are.0).0 more.0,
          (all_keep aggregations (members set t.tuple rows) g.1 t.kept (are.0).1 (all.0 ∙ ap (λ u. accs_of aggregations (members set u rows)) (sym (are.0).0)), more.1),
        )

    -- what the groups tell that stand for rows
    pub set_told : (es rising : List (List Cell × List (Acc H))) (told : List GroupValue) → IsRising (digit_order hash tuple_cmp) (keys_of es) → StandsAt hash aggregations set rows es →
        IsPermutation es rising → IsSorted tuple_cmp (keys_of rising) → AreTold rising told → TellsSet aggregations set rows told
    set_told es rising told up stands all sorted are =
        let HasAccs : List Cell × List (Acc H) → Type 0 = λ g. g.1 ≡ accs_of aggregations (members set g.0 rows) in
        let has = all_in_order HasAccs es rising all (recursion_from_All HasAccs es
        (λ k d h. has_accs hash aggregations set rows es up stands (get_or es k d) (k, h, get_or_default es k (get_or es k d) d h))) in
        let each = tells_each rising told are has in
        record {
          tuples = each.0 ∙ all_tuples hash aggregations set rows es up stands (keys_of rising) (IsPermutation-map (λ g. g.0) es rising all) sorted;
          each = each.1;
        }

    -- ---- and back
    -- the accumulators of a tuple, where it is there
    abbrev there : List Cell → Bool → Option (List (Acc H))
    there q b = cond b (Some (accs_of aggregations (members set q rows))) None

    -- the pairs are those of tuples with the accumulators of their rows
    pub record ArePairs (pairs : List (List Cell × List (Acc H))) : Type 0 where
      pub keys : keys_of pairs ≡ tuples set rows
      pub each : AllByRecursion (λ g. g.1 ≡ accs_of aggregations (members set g.0 rows)) pairs

    pairs_told : (groups : List GroupValue) → AllByRecursion (TellsGroup aggregations set rows) groups →
        pairs_of aggregations groups ≡ Some (with_accs H aggregations set rows groups)
    pairs_told [] all = refl
    pairs_told (g ∷ groups) all = ap₂ (and_pair g.tuple) (made_again aggregations (members set g.tuple rows) g.kept all.0) (pairs_told groups all.1)

    -- what is told makes pairs
    pub told_pairs : (groups : List GroupValue) (o : Option (List (List Cell × List (Acc H)))) → TellsSet aggregations set rows groups → o ≡ pairs_of aggregations groups → MatchOption o ⊥ ArePairs
    told_pairs groups o tells is = subst (λ p. MatchOption p ⊥ ArePairs) (sym (is ∙ pairs_told groups tells.each))
        (record { keys = keys_told H aggregations set rows groups ∙ tells.tuples; each = each_told H aggregations set rows groups })

    put_there : (q : List Cell) (pairs : List (List Cell × List (Acc H))) (m : map.FinMap tuple_cmp (List (Acc H))) (b : Bool) → AllByRecursion (λ g. g.1 ≡ accs_of aggregations (members set g.0 rows)) pairs →
        get m q ≡ there q b → get (fold (λ m p. insert m p.0 p.1) m pairs) q ≡ there q (among q (keys_of pairs) || b)
    put_there q [] m b all now = now
    put_there q (p ∷ pairs) m b all now =
        put_there q pairs (insert m p.0 p.1) (tuple_eq q p.0 || b) all.1
        (get-insert tuple_cmp-total m p.0 p.1 q ∙ cases (tuple_eq q p.0) refl)
        ∙ ap (there q) (swapped (among q (keys_of pairs)) (tuple_eq q p.0) b)
      where
        cases : (c : Bool) → tuple_eq q p.0 ≡ c → cond c (Some p.1) (get m q) ≡ there q (c || b)
        cases true e = ap Some (all.0 ∙ ap (λ u. accs_of aggregations (members set u rows)) (sym (same_tuples q p.0 e)))
        cases false e = now

        swapped : (x y z : Bool) → (x || (y || z)) ≡ ((y || x) || z)
        swapped true true z = refl
        swapped true false z = refl
        swapped false true z = refl
        swapped false false z = refl

    group_there : (q : List Cell) → there q (has_group set rows q) ≡ group aggregations set rows q
    group_there q = cases (no_rows (members set q rows) && not (is_start set q))
      where
        cases : (b : Bool) → there q (not b) ≡ cond b None (Some (accs_of aggregations (members set q rows)))
        cases true = refl
        cases false = refl

    -- pairs put one after another stand for the rows
    pub pairs_stand : (pairs es : List (List Cell × List (Acc H))) → ArePairs pairs → ((q : List Cell) → get (map_of tuple_cmp es) q ≡ value_at (digit_order hash tuple_cmp) es q) →
        map_of tuple_cmp es ≡ fold (λ m p. insert m p.0 p.1) (map_of tuple_cmp []) pairs → map_of {V = List (Acc H)} tuple_cmp [] ≡ empty → StandsAt hash aggregations set rows es
    pairs_stand pairs es are value puts nothing = record {
      gives = λ q. sym (value q) ∙ ap (λ m. get m q) puts
          ∙ put_there q pairs (map_of tuple_cmp []) false are.each (ap (λ m. get m q) nothing ∙ map.get-empty tuple_cmp q)
          ∙ ap (there q) (or_false (among q (keys_of pairs)) ∙ ap (among q) are.keys ∙ among_tuples set rows q) ∙ group_there q;
    }

  -- ---- set by set
  -- what the groups of a set tell, whatever rows they stand for
  pub record TellsLike (hash : List Cell → ℕ) (trie : List (List Cell × List (Acc H))) (told : List GroupValue) : Type 0 where
    pub tells : (aggregations : List Aggregation) (set : List ℕ) (rows : List RowValue) → StandsAt hash aggregations set rows trie → TellsSet aggregations set rows told

  module _ (hash : List Cell → ℕ) where
    tell_each : (aggregations : List Aggregation) (rows : List RowValue) (sets : List (List ℕ)) (tries : List (List (List Cell × List (Acc H)))) (told : List (List GroupValue)) →
        StandsEach hash aggregations sets rows tries → AllZip (TellsLike hash) tries told → AllZip (λ set groups. TellsSet aggregations set rows groups) sets told
    tell_each aggregations rows [] [] [] stand tell = tt
    tell_each aggregations rows [] [] (t ∷ told) stand tell = absurd tell
    tell_each aggregations rows [] (e ∷ tries) told stand tell = absurd stand
    tell_each aggregations rows (s ∷ sets) [] told stand tell = absurd stand
    tell_each aggregations rows (s ∷ sets) (e ∷ tries) [] stand tell = absurd tell
    tell_each aggregations rows (s ∷ sets) (e ∷ tries) (t ∷ told) stand tell =
        ((tell.0).tells aggregations s rows stand.0, tell_each aggregations rows sets tries told stand.1 tell.1)

    pub all_told : (plan : PlanTree) (rows : List RowValue) (tries : List (List (List Cell × List (Acc H)))) (told : List (List GroupValue)) →
        Stands hash plan rows tries → AllZip (TellsLike hash) tries told → Tells plan rows told
    all_told plan rows tries told stand tell = record { each = tell_each (aggregations_of plan.items) rows plan.sets tries told stand.each tell }

    -- the sets of a plan that are made, and those that are left
    pub record Made (plan : PlanTree) (rows : List RowValue) (made : List (List (List Cell × List (Acc H)))) (left : List (List GroupValue)) : Type 0 where
      pub front : List (List ℕ)
      pub later : List (List ℕ)
      pub cut : plan.sets ≡ front ++ later
      pub stand : StandsEach hash (aggregations_of plan.items) front rows made
      pub tell : AllZip (λ set groups. TellsSet (aggregations_of plan.items) set rows groups) later left

    module _ (plan : PlanTree) (rows : List RowValue) (made : List (List (List Cell × List (Acc H)))) (old : List (List GroupValue)) (now : Made plan rows made old) where
      -- the next set that is left, with what is told of it
      pub record Next (groups : List GroupValue) (left : List (List GroupValue)) : Type 0 where
        pub set : List ℕ
        pub later : List (List ℕ)
        pub is : now.later ≡ set ∷ later
        pub tells : TellsSet (aggregations_of plan.items) set rows groups
        pub tell : AllZip (λ set groups. TellsSet (aggregations_of plan.items) set rows groups) later left

      pub next_set : (groups : List GroupValue) (left : List (List GroupValue)) → old ≡ groups ∷ left → Next groups left
      next_set groups left took = cases now.later refl (subst (λ l. AllZip (λ set groups. TellsSet (aggregations_of plan.items) set rows groups) now.later l) took now.tell)
        where
          cases : (sets : List (List ℕ)) → now.later ≡ sets → AllZip (λ set groups. TellsSet (aggregations_of plan.items) set rows groups) now.later (groups ∷ left) → Next groups left
          cases [] e zip = absurd (rw e at zip)
          cases (s ∷ sets) e zip =
              let both : AllZip (λ set groups. TellsSet (aggregations_of plan.items) set rows groups) (s ∷ sets) (groups ∷ left) = rw e at zip in
              record { set = s; later = sets; is = e; tells = both.0; tell = both.1 }

      pub made_more : (groups : List GroupValue) (left : List (List GroupValue)) (next : Next groups left) (trie : List (List Cell × List (Acc H))) (new : List (List (List Cell × List (Acc H)))) →
          StandsAt hash (aggregations_of plan.items) next.set rows trie → new ≡ made ++ trie ∷ [] → Made plan rows new left
      made_more groups left next trie new stands is = record {
        front = now.front ++ next.set ∷ [];
        later = next.later;
        cut = now.cut ∙ ap (λ l. now.front ++ l) next.is ∙ sym (append_assoc now.front (next.set ∷ []) next.later);
        stand = subst (λ l. StandsEach hash (aggregations_of plan.items) (now.front ++ next.set ∷ []) rows l) (sym is)
            (zip_more (λ set entries. StandsAt hash (aggregations_of plan.items) set rows entries) now.front made next.set trie now.stand stands);
        tell = next.tell;
      }

      pub made_all : old ≡ [] → Stands hash plan rows made
      made_all none = record {
        each = subst (λ l. StandsEach hash (aggregations_of plan.items) l rows made) (sym (now.cut ∙ ap (λ l. now.front ++ l) (no_later now.later refl) ∙ append-nil now.front)) now.stand;
      }
        where
          no_later : (sets : List (List ℕ)) → now.later ≡ sets → sets ≡ []
          no_later [] e = refl
          no_later (s ∷ sets) e = absurd (rw (e, none) at now.tell)
