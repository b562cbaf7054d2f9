-- Sets that have all columns of others.
use Rattle.std.specs.Prelude.{◌≡◌, ◌==◌, ℕ, ◌+◌, ◌<◌, ◌≤◌, Bool, true, false, List, [], ◌∷◌, ◌++◌, ◌||◌, length, nat_eq, nat_lt, position, refl, take, Option, Some, None}
use Rattle.std.specs.Cmp.Lexicographic.{pointwise}
use Rattle.std.specs.List.{AllByRecursion, Contains, list_any, position_or_len}
use Rattle.std.specs.Option.{is_some}
use Rattle.std.proofs.Common.{get_or, ap, sym, ◌∙◌, subst, arith, eq-eqb}
use Rattle.std.proofs.lemmas.Bool.{ltb-false}
use Rattle.std.proofs.lemmas.Cmp.{nat_list_eq_equiv}
use Rattle.std.proofs.lemmas.List.{get_or_default, map-append}
use Rattle.std.proofs.lemmas.List.Folds.{list_all_at, list_any-append, list_any_none}
use Rattle.std.proofs.lemmas.List.Sums.{fails_before_first, list_all-from_AllPass}
use Rattle.groups.specs.Groups.{index_in}
use Rattle.groups.specs.Pools.{AddsSource, ArePlanned, has_all, has_finer, has_set, sets_of}
use Rattle.groups.specs.declared.pool.SetBag.{SetBag}
use Rattle.groups.proofs.BagLemmas.{covers_none}
use Rattle.groups.proofs.TuplesLemmas.{all_push, all_through, take_next}

-- ---- a set has all its own columns
found : (p : ℕ → Bool) (xs : List ℕ) (k : ℕ) → k < length xs → p (get_or xs k 0) ≡ true → is_some (position p xs) ≡ true
found p xs k h e = go (nat_lt (position_or_len p xs) (length xs)) refl
  where
    go : (b : Bool) → nat_lt (position_or_len p xs) (length xs) ≡ b → is_some (position p xs) ≡ true
    go true f = rw f refl
    go false f =
        let past : length xs ≤ position_or_len p xs = ltb-false _ _ f in
        let bad = fails_before_first p xs k 0 (omega (arith, h, past)) in
        cc

pub has_itself : (set : List ℕ) → has_all set set ≡ true
has_itself set = list_all-from_AllPass (λ c. is_some (index_in set c)) set (λ k d h.
    found (λ c. c == get_or set k d) set k h (eq-eqb (get_or set k 0) (get_or set k d) (get_or_default set k 0 d h)))

-- ---- what is found
not_found : {X : Type 0} (p : X → Bool) (xs : List X) → position p xs ≡ None → list_any p xs ≡ false
not_found {X} p xs e = go (nat_lt (position_or_len p xs) (length xs)) refl
  where
    go : (b : Bool) → nat_lt (position_or_len p xs) (length xs) ≡ b → list_any p xs ≡ false
    go true f =
        let some : position p xs ≡ Some (position_or_len p xs) = rw f refl in
        cc
    go false f =
        let past : length xs ≤ position_or_len p xs = ltb-false _ _ f in
        list_any_none p xs (λ k d h. fails_before_first p xs k d (omega (arith, h, past)))

pub finer_is_there : {H : Type 0} (pool : List (SetBag H)) (set : List ℕ) (found : Option ℕ) → has_finer pool set ≡ true →
    found ≡ position (λ (f : SetBag H). has_all f.set.items set) pool → found ≡ None → ⊥
finer_is_there {H} pool set found has is none =
    let e : has_finer pool set ≡ false = not_found (λ (f : SetBag H). has_all f.set.items set) pool (sym is ∙ none) in
    cc

pub column_is_there : (finer set : List ℕ) (i : ℕ) (found : Option ℕ) → has_all finer set ≡ true → i < length set → found ≡ index_in finer (get_or set i 0) → found ≡ None → ⊥
column_is_there finer set i found has h is none =
    let e : has_all finer set ≡ false = list_all_at (λ c. is_some (index_in finer c)) set i 0 h (ap is_some (sym is ∙ none)) in
    cc

-- ---- a source more
either_first : (a b : Bool) → a ≡ true → (a || b) ≡ true
either_first a b e = rw e refl

either_second : (a b : Bool) → b ≡ true → (a || b) ≡ true
either_second true b e = refl
either_second false b e = e

module _ {H : Type 0} where
  pub finer_stays : (pool : List (SetBag H)) (f : SetBag H) (set : List ℕ) → has_finer pool set ≡ true → has_finer (pool ++ f ∷ []) set ≡ true
  finer_stays pool f set e =
      list_any-append (λ (g : SetBag H). has_all g.set.items set) pool (f ∷ []) ∙ either_first (has_finer pool set) (has_finer (f ∷ []) set) e

  pub finer_here : (pool : List (SetBag H)) (f : SetBag H) → has_finer (pool ++ f ∷ []) f.set.items ≡ true
  finer_here pool f =
      list_any-append (λ (g : SetBag H). has_all g.set.items f.set.items) pool (f ∷ [])
      ∙ either_second (has_finer pool f.set.items) (has_finer (f ∷ []) f.set.items) (either_first _ false (has_itself f.set.items))

  pub set_stays : (pool : List (SetBag H)) (f : SetBag H) (set : List ℕ) → has_set pool set ≡ true → has_set (pool ++ f ∷ []) set ≡ true
  set_stays pool f set e =
      list_any-append (λ (g : SetBag H). pointwise nat_eq g.set.items set) pool (f ∷ []) ∙ either_first (has_set pool set) (has_set (f ∷ []) set) e

  pub set_here : (pool : List (SetBag H)) (f : SetBag H) → has_set (pool ++ f ∷ []) f.set.items ≡ true
  set_here pool f =
      list_any-append (λ (g : SetBag H). pointwise nat_eq g.set.items f.set.items) pool (f ∷ [])
      ∙ either_second (has_set pool f.set.items) (has_set (f ∷ []) f.set.items) (either_first _ false (nat_list_eq_equiv.refl f.set.items))

  pub adds_source : (set : List ℕ) (old new : List (SetBag H)) (f : SetBag H) → f.set.items ≡ set → f.bag ≡ [] → new ≡ old ++ f ∷ [] → AddsSource set old new
  adds_source set old new f is empty e = rw e (record {
    finer = subst (λ s. has_finer (old ++ f ∷ []) s ≡ true) is (finer_here old f);
    stay = finer_stays old f;
    planned = λ sets contains now. record {
      among = subst (AllByRecursion (Contains sets)) (sym (map-append (λ (g : SetBag H). g.set.items) old (f ∷ [])))
          (all_push (Contains sets) (sets_of old) f.set.items now.among (subst (Contains sets) (sym is) contains));
      none = λ aggregations. record {
        each = all_push _ old f (now.none aggregations).each (rw empty (covers_none aggregations f.set.items));
      };
    };
  })

  -- those of the first sets that have so many columns have a source
  pub record Sourced (sets : List (List ℕ)) (columns i : ℕ) (sources : List (SetBag H)) : Type 0 where
    pub planned : ArePlanned sets sources
    pub finer : AllByRecursion (λ (set : List ℕ). columns ≤ length set → has_finer sources set ≡ true) (take i sets)

  sourced_push : (sets : List (List ℕ)) (columns i : ℕ) (set : List ℕ) (sources new : List (SetBag H)) → i < length sets → set ≡ get_or sets i set → ArePlanned sets new →
      ((other : List ℕ) → has_finer sources other ≡ true → has_finer new other ≡ true) → (columns ≤ length set → has_finer new set ≡ true) → Sourced sets columns i sources →
      Sourced sets columns (i + 1) new
  sourced_push sets columns i set sources new h is planned stay here now = record {
    planned = planned;
    finer = subst (AllByRecursion (λ (s : List ℕ). columns ≤ length s → has_finer new s ≡ true)) (sym (take_next sets i set set h is))
        (all_push _ (take i sets) set (all_through _ _ (λ s f few. stay s (f few)) (take i sets) now.finer) here);
  }

  pub sourced_more : (sets its : List (List ℕ)) (columns i : ℕ) (s set : List ℕ) (sources new : List (SetBag H)) → its ≡ sets → i < length its → s ≡ get_or its i s → set ≡ s →
      AddsSource set sources new → Sourced sets columns i sources → Sourced sets columns (i + 1) new
  sourced_more sets its columns i s set sources new same h is e adds now =
      let within : i < length sets = subst (λ l. i < length l) same h in
      let at : s ≡ get_or sets i s = subst (λ (l : List (List ℕ)). s ≡ get_or l i s) same is in
      let added : AddsSource s sources new = subst (λ x. AddsSource x sources new) e adds in
      sourced_push sets columns i s sources new within at (added.planned sets (i, within, sym at) now.planned) added.stay (λ few. added.finer) now

  pub sourced_fewer : (sets its : List (List ℕ)) (columns i count : ℕ) (s : List ℕ) (sources : List (SetBag H)) → its ≡ sets → i < length its → s ≡ get_or its i s →
      count ≡ length s → count < columns → Sourced sets columns i sources → Sourced sets columns (i + 1) sources
  sourced_fewer sets its columns i count s sources same h is e less now =
      sourced_push sets columns i s sources sources (subst (λ l. i < length l) same h) (subst (λ (l : List (List ℕ)). s ≡ get_or l i s) same is) now.planned (λ other f. f)
      (λ few. absurd (omega (arith, e, less, few))) now
