-- Pools of groups, and partial results set by set.
use Rattle.std.specs.Prelude.{◌≡◌, ◌==◌, ℕ, ◌+◌, ◌<◌, ◌≤◌, Bool, true, false, List, [], ◌∷◌, ◌++◌, length, nat_eq, nat_lt, ◌&&◌, take, Some, refl, slice_index_or}
use Rattle.std.specs.Cmp.Lexicographic.{pointwise}
use Rattle.std.proofs.Common.{eqb-true, get_or, ap₂, arith, sym, ◌∙◌, subst}
use Rattle.std.proofs.lemmas.Bool.{ltb-false, ltb-true}
use Rattle.std.proofs.lemmas.List.{map-append, take_all, take_more}
use Rattle.std.proofs.lemmas.List.Quantifiers.{position-Some}
use Rattle.cells.specs.Values.{RowValue}
use Rattle.cells.specs.declared.cell.Cell.{Cell}
use Rattle.groups.specs.Coarsening.{AreIndexes}
use Rattle.groups.specs.Bags.{Covers, Group}
use Rattle.groups.specs.Groups.{index_in}
use Rattle.groups.specs.Partials.{StandsAt, StandsEach}
use Rattle.groups.specs.Pools.{AreCounted, Grows, HaveFiner, HaveSetsAbove, HaveSetsOf, IsPool, MayCoarsenAll, has_finer, has_set}
use Rattle.groups.specs.declared.aggregation.Aggregation.{Aggregation}
use Rattle.groups.specs.declared.pool.SetBag.{SetBag}
use Rattle.groups.proofs.SourcesLemmas.{finer_stays, set_here, set_stays}
use Rattle.groups.proofs.TuplesLemmas.{all_at, all_push, all_through, take_next, zip_push}

-- ---- indexes of columns

pub indexes_more : (finer columns indexes new : List ℕ) (i index : ℕ) → i < length columns → AreIndexes finer (take i columns) indexes →
    index_in finer (get_or columns i 0) ≡ Some index → new ≡ indexes ++ index ∷ [] → AreIndexes finer (take (i + 1) columns) new
indexes_more finer columns indexes new i index h now e f =
    let found = position-Some (λ c. c == get_or columns i 0) finer index 0 e in
    subst (AreIndexes finer (take (i + 1) columns)) (sym f) (record {
      within = all_push (λ k. k < length finer) indexes index now.within found.0;
      are = map-append (λ k. slice_index_or finer k 0) indexes (index ∷ []) ∙ ap₂ (λ (xs : List ℕ) (c : ℕ). xs ++ c ∷ []) now.are (eqb-true _ _ found.1)
          ∙ sym (take_more columns i 0 h);
    })

-- ---- the pool
module _ {H : Type 0} where
  pub pool_more : (aggregations : List Aggregation) (rows : List RowValue) (pool new : List (SetBag H)) (f : SetBag H) → IsPool aggregations rows pool →
      Covers aggregations f.set.items rows f.bag → new ≡ pool ++ f ∷ [] → IsPool aggregations rows new
  pool_more aggregations rows pool new f now covers e = subst (IsPool aggregations rows) (sym e) (record { each = all_push _ pool f now.each covers })

  pub pool_at : (aggregations : List Aggregation) (rows : List RowValue) (pool : List (SetBag H)) (i : ℕ) (f : SetBag H) → IsPool aggregations rows pool → i < length pool →
      f ≡ get_or pool i f → Covers aggregations f.set.items rows f.bag
  pool_at aggregations rows pool i f now h is = subst (λ (g : SetBag H). Covers aggregations g.set.items rows g.bag) (sym is)
      (all_at (λ (g : SetBag H). Covers aggregations g.set.items rows g.bag) pool i f now.each h)

-- ---- a pool that grows
module _ {H : Type 0} where
  pub grows_not : (old new : List (SetBag H)) → new ≡ old → Grows old new
  grows_not old new e = rw e (record { covers = λ aggregations rows now. now; finer = λ set h. h; stay = λ set h. h })

  pub grows_more : (old mid new : List (SetBag H)) → Grows old mid → Grows mid new → Grows old new
  grows_more old mid new first second = record {
    covers = λ aggregations rows now. second.covers aggregations rows (first.covers aggregations rows now);
    finer = λ set h. second.finer set (first.finer set h);
    stay = λ set h. second.stay set (first.stay set h);
  }

  pub grows_by : (old new : List (SetBag H)) (f : SetBag H) → ((aggregations : List Aggregation) (rows : List RowValue) → IsPool aggregations rows old → Covers aggregations f.set.items rows f.bag) →
      new ≡ old ++ f ∷ [] → Grows old new
  grows_by old new f covers e = rw e (record {
    covers = λ aggregations rows now. pool_more aggregations rows old (old ++ f ∷ []) f now (covers aggregations rows now) refl;
    finer = finer_stays old f;
    stay = set_stays old f;
  })

  pub grows_by_set : (old slice new : List (SetBag H)) (set : List ℕ) (f : SetBag H) → slice ≡ old → f.set.items ≡ set →
      ((aggregations : List Aggregation) (rows : List RowValue) → IsPool aggregations rows slice → Covers aggregations set rows f.bag) → new ≡ old ++ f ∷ [] → Grows old new
  grows_by_set old slice new set f same is covers e = grows_by old new f (λ aggregations rows now.
      rw is (covers aggregations rows (rw same now))) e

  pub set_pushed : (old new : List (SetBag H)) (set : List ℕ) (f : SetBag H) → f.set.items ≡ set → new ≡ old ++ f ∷ [] → has_set new set ≡ true
  set_pushed old new set f is e = rw e (subst (λ s. has_set (old ++ f ∷ []) s ≡ true) is (set_here old f))

  pub grown_counted : (aggregations : List Aggregation) (old new : List (SetBag H)) → Grows old new → AreCounted aggregations old → AreCounted aggregations new
  grown_counted aggregations old new grows counted = record { rows = counted.rows; covers = grows.covers aggregations counted.rows counted.covers; few = counted.few }

  pub grown_may : (old new : List (SetBag H)) → Grows old new → MayCoarsenAll old → MayCoarsenAll new
  grown_may old new grows may = record { aggregations = may.aggregations; counted = grown_counted may.aggregations old new grows may.counted }

  pub grown_finer : (old new : List (SetBag H)) (sets : List (List ℕ)) → Grows old new → HaveFiner old sets → HaveFiner new sets
  grown_finer old new sets grows finer = all_through _ _ grows.finer sets finer

  pub finer_at : (pool : List (SetBag H)) (sets its : List (List ℕ)) (i : ℕ) (s set : List ℕ) → HaveFiner pool sets → its ≡ sets → i < length its → s ≡ get_or its i s → set ≡ s →
      has_finer pool set ≡ true
  finer_at pool sets its i s set finer same h is e =
      rw (e, is, same) (all_at (λ (x : List ℕ). has_finer pool x ≡ true) sets i s finer (subst (λ l. i < length l) same h))

-- ---- sets whose groups the pool has
module _ {H : Type 0} (sets : List (List ℕ)) (columns : ℕ) where
  -- those of so many columns among the first sets, in a pool that has grown
  pub record AddsTo (i : ℕ) (old new : List (SetBag H)) : Type 0 where
    pub grows : Grows old new
    pub there : HaveSetsOf columns new (take i sets)

  pub adds_to_more : (its : List (List ℕ)) (i : ℕ) (s : List ℕ) (old mid new : List (SetBag H)) → its ≡ sets → i < length its → s ≡ get_or its i s → Grows mid new →
      (length s ≡ columns → has_set new s ≡ true) → AddsTo i old mid → AddsTo (i + 1) old new
  adds_to_more its i s old mid new same h is grows here now =
      let within : i < length sets = subst (λ l. i < length l) same h in
      let at : s ≡ get_or sets i s = subst (λ (l : List (List ℕ)). s ≡ get_or l i s) same is in
      record {
        grows = grows_more old mid new now.grows grows;
        there = subst (HaveSetsOf columns new) (sym (take_next sets i s s within at))
            (all_push _ (take i sets) s (all_through _ _ (λ x f many. grows.stay x (f many)) (take i sets) now.there) here);
      }

  -- those of more columns, in a pool that has grown
  pub record GrownTo (old new : List (SetBag H)) : Type 0 where
    pub grows : Grows old new
    pub there : HaveSetsAbove columns new sets

module _ {H : Type 0} where
  both_there : (columns less : ℕ) (mid new : List (SetBag H)) (sets : List (List ℕ)) → columns ≡ less + 1 → Grows mid new → HaveSetsAbove columns mid sets →
      HaveSetsOf columns new sets → HaveSetsAbove less new sets
  both_there columns less mid new [] e grows above of = tt
  both_there columns less mid new (s ∷ sets) e grows above of = (one (nat_lt columns (length s)) refl, both_there columns less mid new sets e grows above.1 of.1)
    where
      one : (b : Bool) → nat_lt columns (length s) ≡ b → less < length s → has_set new s ≡ true
      one true f more = grows.stay s (above.0 (ltb-true _ _ f))
      one false f more = let most : length s ≤ columns = ltb-false _ _ f in of.0 (omega (arith, e, more, most))

  pub grown_more : (sets : List (List ℕ)) (columns less : ℕ) (old mid new : List (SetBag H)) → columns ≡ less + 1 → GrownTo sets columns old mid → Grows mid new →
      HaveSetsOf columns new sets → GrownTo sets less old new
  grown_more sets columns less old mid new e now grows of = record {
    grows = grows_more old mid new now.grows grows;
    there = both_there columns less mid new sets e grows now.there of;
  }

module _ {H : Type 0} (hash : List Cell → ℕ) (aggregations : List Aggregation) (pool : List (SetBag H)) (sets : List (List ℕ)) where
  -- the tries of the first i sets stand for whatever rows went into the pool
  pub record StandsFor (i : ℕ) (tries : List (List (Group H))) : Type 0 where
    pub each : (rows : List RowValue) → IsPool aggregations rows pool → StandsEach hash aggregations (take i sets) rows tries

  pub stands_for_next : (i : ℕ) (s t : List ℕ) (tries new : List (List (Group H))) (trie : List (Group H)) → i < length sets → s ≡ get_or sets i s → t ≡ s →
      StandsFor i tries → ((rows : List RowValue) → IsPool aggregations rows pool → StandsAt hash aggregations t rows trie) → new ≡ tries ++ trie ∷ [] → StandsFor (i + 1) new
  stands_for_next i s t tries new trie h is e now one f = record {
    each = λ rows pooled.
        subst (λ ss. StandsEach hash aggregations ss rows new) (sym (take_next sets i s s h is))
        (subst (StandsEach hash aggregations (take i sets ++ s ∷ []) rows) (sym f)
        (zip_push (λ set entries. StandsAt hash aggregations set rows entries) (take i sets) tries s trie (now.each rows pooled)
        (subst (λ u. StandsAt hash aggregations u rows trie) e (one rows pooled))));
  }

  pub stands_for_all : (i : ℕ) (tries : List (List (Group H))) → length sets ≤ i → StandsFor i tries → (rows : List RowValue) → IsPool aggregations rows pool →
      StandsEach hash aggregations sets rows tries
  stands_for_all i tries h now rows pooled = subst (λ ss. StandsEach hash aggregations ss rows tries) (take_all i sets h) (now.each rows pooled)

-- ---- equal sets are the same
pub same_set : (xs ys : List ℕ) → pointwise nat_eq xs ys ≡ true → xs ≡ ys
same_set [] [] e = refl
same_set [] (y ∷ ys) e = cc
same_set (x ∷ xs) [] e = cc
same_set (x ∷ xs) (y ∷ ys) e = go (nat_eq x y) (pointwise nat_eq xs ys) refl refl e (same_set xs ys)
  where
    go : (b c : Bool) → nat_eq x y ≡ b → pointwise nat_eq xs ys ≡ c → (b && c) ≡ true → (pointwise nat_eq xs ys ≡ true → xs ≡ ys) → x ∷ xs ≡ y ∷ ys
    go true true p q f rest = ap₂ (λ (a : ℕ) (l : List ℕ). a ∷ l) (eqb-true x y p) (rest q)
    go true false p q f rest = cc
    go false c p q f rest = cc
