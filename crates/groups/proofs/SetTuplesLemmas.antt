-- The tuples of a grouping set: which there are, that they rise, and how many there are.
use Rattle.std.specs.Prelude.{◌≡◌, ℕ, suc, ◌+◌, ◌<◌, ◌≤◌, Bool, true, false, not, ◌&&◌, ◌||◌, T, List, [], ◌∷◌, length, map, Option, Some, None, cond, is_some, refl}
use Rattle.std.specs.Borrow.{Bor}
use Rattle.std.specs.FinMap.Entries as fin
use Rattle.std.specs.List.{AllByRecursion, Contains, IsDistinct, list_any}
use Rattle.std.specs.List.Sorted.{IsPermutation, IsSorted, IsSortedByKey}
use Rattle.std.specs.Map.{keys_of}
use Rattle.std.specs.Ordering.{is_eq, is_lt, match_ordering, ordering_reverse}
use Rattle.std.specs.declared.cmp.Ordering.{Ordering}
use Rattle.std.specs.declared.cmp.Ordering.TheVariants.{Less, Equal, Greater}
use Rattle.std.proofs.Common.{get_or, ap, sym, ◌∙◌, subst, arith}
use Rattle.std.proofs.lemmas.List.{get_or-map, length-map}
use Rattle.std.proofs.lemmas.List.Sorted.{IsPermutation-sym, list_any-IsPermutation, ranks_by, sorted_far}
use Rattle.std.proofs.lemmas.Map.Keys.{IsDistinct-IsPermutation}
use Rattle.std.proofs.lemmas.Map.Made.{is_some-lookup, length-le_from_is_member}
use Rattle.std.proofs.lemmas.Map.Views.{lookup-from_Contains}
use Rattle.std.proofs.lemmas.Option.{same_Some}
use Rattle.aggs.specs.declared.acc.Acc.{Acc}
use Rattle.cells.specs.SameKeys.{exact_tuples}
use Rattle.cells.specs.TupleOrder.{tuple_cmp, tuple_cmp-total, tuple_eq, tuple_eq-equiv}
use Rattle.cells.specs.Values.{RowValue}
use Rattle.cells.specs.declared.cell.Cell.{Cell}
use Rattle.groups.specs.Accumulators.{accs_of, group, is_start, no_rows}
use Rattle.groups.specs.Groups.{different, lay, members, tuple_of, tuples}
use Rattle.groups.specs.Partials.{StandsAt}
use Rattle.groups.specs.declared.aggregation.Aggregation.{Aggregation}
use Rattle.groups.proofs.OrderLemmas.{rising_differ, value_by_tuple}
use Rattle.trie.specs.Digits.{digit_order}
use Rattle.trie.specs.Entries.{IsRising}
use Rattle.trie.specs.Holding.{lent}

-- tuples, each with nothing: so they are the entries of a sorted map
abbrev pub marked : List (List Cell) → List (List Cell × Unit {0})
marked ts = map (λ t. (t, tt)) ts

abbrev pub mark : Option (Unit {0})
mark = Some tt

either_marked : (b c : Bool) → cond b mark (cond c mark None) ≡ cond (b || c) mark None
either_marked true c = refl
either_marked false c = refl

-- whether a tuple is among them
abbrev pub among : List Cell → List (List Cell) → Bool
among q ts = list_any (tuple_eq q) ts

find_marked : (q : List Cell) (ts : List (List Cell)) → fin.find tuple_cmp q (marked ts) ≡ cond (among q ts) mark None
find_marked q [] = refl
find_marked q (t ∷ ts) = rw (find_marked q ts) (either_marked (tuple_eq q t) (among q ts))

unmarked : (ts : List (List Cell)) → map (λ e. e.0) (marked ts) ≡ ts
unmarked [] = refl
unmarked (t ∷ ts) = ap (λ l. t ∷ l) (unmarked ts)

-- rising tuples are decided by which there are
same_tuples_by : (ts us : List (List Cell)) → T (fin.is_sorted tuple_cmp (marked ts)) → T (fin.is_sorted tuple_cmp (marked us)) →
    ((q : List Cell) → among q ts ≡ among q us) → ts ≡ us
same_tuples_by ts us p q same =
    let one = fin.same_entries tuple_cmp tuple_cmp-total exact_tuples (marked ts) (marked us) p q
    (λ t. find_marked t ts ∙ ap (λ b. cond b mark None) (same t) ∙ sym (find_marked t us)) in
    sym (unmarked ts) ∙ ap (map (λ e. e.0)) one ∙ unmarked us

-- ---- a tuple laid into rising ones
marked_lay : (t : List Cell) (ts : List (List Cell)) → marked (lay t ts) ≡ fin.put tuple_cmp t tt (marked ts)
marked_lay t [] = refl
marked_lay t (u ∷ ts) = cases (tuple_cmp t u) (marked_lay t ts)
  where
    cases : (o : Ordering) → marked (lay t ts) ≡ fin.put tuple_cmp t tt (marked ts) →
        marked (match_ordering o (t ∷ u ∷ ts) (u ∷ ts) (u ∷ lay t ts)) ≡ fin.by_order o ((t, tt) ∷ (u, tt) ∷ marked ts) ((u, tt) ∷ marked ts) ((u, tt) ∷ fin.put tuple_cmp t tt (marked ts))
    cases Less e = refl
    cases Equal e = refl
    cases Greater e = ap (λ l. (u, tt) ∷ l) e

different_sorted : (ts : List (List Cell)) → T (fin.is_sorted tuple_cmp (marked (different ts)))
different_sorted [] = tt
different_sorted (t ∷ ts) = subst (λ l. T (fin.is_sorted tuple_cmp l)) (sym (marked_lay t (different ts)))
    (fin.is_sorted-put tuple_cmp tuple_cmp-total t tt (marked (different ts)) (different_sorted ts))

find_different : (q : List Cell) (ts : List (List Cell)) → fin.find tuple_cmp q (marked (different ts)) ≡ cond (among q ts) mark None
find_different q [] = refl
find_different q (t ∷ ts) = ap (fin.find tuple_cmp q) (marked_lay t (different ts))
    ∙ fin.find-put tuple_cmp tuple_cmp-total q t tt (marked (different ts)) ∙ rw (find_different q ts) (either_marked (tuple_eq q t) (among q ts))

one_answer : (b c : Bool) → cond b mark None ≡ cond c mark None → b ≡ c
one_answer true true e = refl
one_answer true false e = cc
one_answer false true e = cc
one_answer false false e = refl

among_different : (q : List Cell) (ts : List (List Cell)) → among q (different ts) ≡ among q ts
among_different q ts = one_answer _ _ (sym (find_marked q (different ts)) ∙ find_different q ts)

tuples_sorted : (set : List ℕ) (rows : List RowValue) → T (fin.is_sorted tuple_cmp (marked (tuples set rows)))
tuples_sorted [] rows = tt
tuples_sorted (c ∷ set) rows = different_sorted (map (tuple_of (c ∷ set)) rows)

-- ---- tuples that are sorted and differ rise
less_from : (a b : List Cell) (o : Ordering) → tuple_cmp a b ≡ o → is_lt (tuple_cmp b a) ≡ false → tuple_eq a b ≡ false → is_lt (tuple_cmp a b) ≡ true
less_from a b Less e p q = ap is_lt e
less_from a b Equal e p q = let k : is_eq (tuple_cmp a b) ≡ true = ap is_eq e in cc
less_from a b Greater e p q = let k : tuple_cmp b a ≡ Less = tuple_cmp-total.antisymm b a ∙ ap ordering_reverse e in
    let l : is_lt (tuple_cmp b a) ≡ true = ap is_lt k in cc

all_true : (b c : Bool) → T b → T c → T (b && c)
all_true true c h k = k
all_true false c h k = absurd h

both_true : (b c : Bool) → b ≡ true → T c → T (b && c)
both_true true c e h = h
both_true false c e h = cc

below_from : (t : List Cell) (ts : List (List Cell)) → AllByRecursion (λ u. tuple_eq t u ≡ false) ts →
    ((j : ℕ) (d : List Cell) → j < length ts → is_lt (tuple_cmp (get_or ts j d) t) ≡ false) → T (fin.below_all tuple_cmp t (marked ts))
below_from t [] apart up = tt
below_from t (u ∷ ts) apart up = both_true _ _ (less_from t u (tuple_cmp t u) refl (up 0 u (omega arith)) apart.0)
    (below_from t ts apart.1 (λ j d h. up (suc j) d (omega arith)))

tail_sorted : (t : List Cell) (ts : List (List Cell)) → IsSorted tuple_cmp (t ∷ ts) → IsSorted tuple_cmp ts
tail_sorted t ts up = λ k d l h.
    let e : suc k + 1 ≡ suc (k + 1) = omega arith in
    subst (λ n. is_lt (tuple_cmp (get_or (t ∷ ts) n d) (get_or (t ∷ ts) (suc k) d)) ≡ false) e (up (suc k) d (omega arith) (omega arith))

sorted_marked : (ts : List (List Cell)) → IsSorted tuple_cmp ts → IsDistinct tuple_eq ts → T (fin.is_sorted tuple_cmp (marked ts))
unfolding IsDistinct
sorted_marked [] up apart = tt
sorted_marked (t ∷ ts) up apart =
    let far = sorted_far (λ x y. is_lt (tuple_cmp x y)) (ranks_by tuple_cmp-total (λ x. x)) (t ∷ ts) up in
    all_true _ _ (below_from t ts apart.0 (λ j d h. far 0 (suc j) d (omega arith) (omega arith)))
    (sorted_marked ts (tail_sorted t ts up) apart.1)

-- ---- which tuples have a group
-- whether a tuple has rows, or is there from the start
abbrev pub has_group : List ℕ → List RowValue → List Cell → Bool
has_group set rows tuple = not (no_rows (members set tuple rows) && not (is_start set tuple))

among_rows : (set : List ℕ) (q : List Cell) (rows : List RowValue) → among q (map (tuple_of set) rows) ≡ not (no_rows (members set q rows))
among_rows set q [] = refl
among_rows set q (r ∷ rows) = rw (tuple_eq-equiv.symm q (tuple_of set r), among_rows set q rows) (cases (tuple_eq (tuple_of set r) q))
  where
    cases : (b : Bool) → (b || not (no_rows (members set q rows))) ≡ not (no_rows (cond b (r ∷ members set q rows) (members set q rows)))
    cases true = refl
    cases false = refl

no_member : (x : Cell) (q : List Cell) (rows : List RowValue) → members [] (x ∷ q) rows ≡ []
no_member x q [] = refl
no_member x q (r ∷ rows) = no_member x q rows

started : (b : Bool) → not (b && false) ≡ true
started true = refl
started false = refl

met : (b : Bool) → not b ≡ not (b && true)
met true = refl
met false = refl

pub among_tuples : (set : List ℕ) (rows : List RowValue) (q : List Cell) → among q (tuples set rows) ≡ has_group set rows q
among_tuples [] rows [] = sym (started (no_rows (members [] [] rows)))
among_tuples [] rows (x ∷ q) = rw (no_member x q rows) refl
among_tuples (c ∷ set) rows q = among_different q (map (tuple_of (c ∷ set)) rows) ∙ among_rows (c ∷ set) q rows
    ∙ met (no_rows (members (c ∷ set) q rows))

by_absence : (H : Type 0) (aggregations : List Aggregation) (rows : List RowValue) (b : Bool) →
    is_some (cond b None (Some (accs_of {H = H} aggregations rows))) ≡ not b
by_absence H aggregations rows true = refl
by_absence H aggregations rows false = refl

pub group_is_some : (H : Type 0) (aggregations : List Aggregation) (set : List ℕ) (rows : List RowValue) (q : List Cell) →
    is_some (group {H = H} aggregations set rows q) ≡ has_group set rows q
group_is_some H aggregations set rows q =
    by_absence H aggregations (members set q rows) (no_rows (members set q rows) && not (is_start set q))

module _ {H : Type 0} where
  its_accs : (aggregations : List Aggregation) (rows : List RowValue) (b : Bool) → not b ≡ true →
      cond b None (Some (accs_of {H = H} aggregations rows)) ≡ Some (accs_of aggregations rows)
  its_accs aggregations rows true e = cc
  its_accs aggregations rows false e = refl

  pub group_is : (aggregations : List Aggregation) (set : List ℕ) (rows : List RowValue) (q : List Cell) → has_group set rows q ≡ true →
      group {H = H} aggregations set rows q ≡ Some (accs_of aggregations (members set q rows))
  group_is aggregations set rows q e =
      its_accs aggregations (members set q rows) (no_rows (members set q rows) && not (is_start set q)) e

  module _ (hash : List Cell → ℕ) (aggregations : List Aggregation) (set : List ℕ) (rows : List RowValue) (es : List (List Cell × List (Acc H)))
      (rising : IsRising (digit_order hash tuple_cmp) (keys_of es)) (stands : StandsAt hash aggregations set rows es) where
    -- the keys of the groups are the tuples
    among_both : (q : List Cell) → among q (keys_of es) ≡ among q (tuples set rows)
    among_both q = sym (is_some-lookup (tuple_eq q) es) ∙ ap is_some (sym (value_by_tuple hash es q) ∙ stands.gives q)
        ∙ group_is_some H aggregations set rows q ∙ sym (among_tuples set rows q)

    pub all_tuples : (ts : List (List Cell)) → IsPermutation (keys_of es) ts → IsSorted tuple_cmp ts → ts ≡ tuples set rows
    all_tuples ts all up =
        let apart = IsDistinct-IsPermutation tuple_eq tuple_eq-equiv.symm (keys_of es) ts all (rising_differ hash (keys_of es) rising) in
        same_tuples_by ts (tuples set rows) (sorted_marked ts up apart) (tuples_sorted set rows)
        (λ q. list_any-IsPermutation (tuple_eq q) ts (keys_of es) (IsPermutation-sym (keys_of es) ts all) ∙ among_both q)

    -- a group has the accumulators of its tuple's rows
    pub has_accs : (g : List Cell × List (Acc H)) → Contains es g → g.1 ≡ accs_of aggregations (members set g.0 rows)
    has_accs g there =
        let got : group aggregations set rows g.0 ≡ Some g.1 = sym (stands.gives g.0) ∙ value_by_tuple hash es g.0
        ∙ lookup-from_Contains tuple_eq-equiv g.0 g.1 es (rising_differ hash (keys_of es) rising) there in
        let has : has_group set rows g.0 ≡ true = sym (group_is_some H aggregations set rows g.0) ∙ ap is_some got in
        same_Some _ _ (sym got ∙ group_is aggregations set rows g.0 has)

-- the order of the rows does not count, where the same tuples have groups
pub tuples_by_groups : (set : List ℕ) (xs ys : List RowValue) → ((q : List Cell) → has_group set xs q ≡ has_group set ys q) → tuples set xs ≡ tuples set ys
tuples_by_groups set xs ys same = same_tuples_by (tuples set xs) (tuples set ys) (tuples_sorted set xs) (tuples_sorted set ys)
    (λ q. among_tuples set xs q ∙ same q ∙ sym (among_tuples set ys q))

-- ---- how many tuples there are
lay_short : (t : List Cell) (ts : List (List Cell)) → length (lay t ts) ≤ length ts + 1
lay_short t [] = omega arith
lay_short t (u ∷ ts) = by_order (lay_short t ts) (tuple_cmp t u)
  where
    by_order : length (lay t ts) ≤ length ts + 1 → (o : Ordering) → length (match_ordering o (t ∷ u ∷ ts) (u ∷ ts) (u ∷ lay t ts)) ≤ length (u ∷ ts) + 1
    by_order rest Less = omega arith
    by_order rest Equal = omega arith
    by_order rest Greater = omega (arith, rest)

different_short : (ts : List (List Cell)) → length (different ts) ≤ length ts
different_short [] = omega arith
different_short (t ∷ ts) = omega (arith, lay_short t (different ts), different_short ts)

tuples_short : (set : List ℕ) (rows : List RowValue) → length (tuples set rows) ≤ length rows + 1
tuples_short [] rows = omega arith
tuples_short (c ∷ set) rows = omega (arith, different_short (map (tuple_of (c ∷ set)) rows), length-map rows (tuple_of (c ∷ set)))

-- no more groups than rows, and the one that is there from the start
pub stands_short : {H : Type 0} (hash : List Cell → ℕ) (aggregations : List Aggregation) (set : List ℕ) (rows : List RowValue) (es : List (List Cell × List (Acc H))) →
    IsRising (digit_order hash tuple_cmp) (keys_of es) → StandsAt hash aggregations set rows es → length es ≤ length rows + 1
stands_short hash aggregations set rows es rising stands =
    let fewer = length-le_from_is_member tuple_eq-equiv (keys_of es) (tuples set rows) (rising_differ hash (keys_of es) rising)
    (λ q e. sym (among_both hash aggregations set rows es rising stands q) ∙ e) in
    omega (arith, fewer, tuples_short set rows, length-map es (λ e. e.0))

-- ---- tuples that are lent
pub keys_lent : {H : Type 0} (xs : List (Bor (List Cell) × Bor (List (Acc H)))) → keys_of (lent xs) ≡ map (λ e. e.0.now) xs
keys_lent [] = refl
keys_lent (x ∷ xs) = ap (λ l. x.0.now ∷ l) (keys_lent xs)

sorted_lent_keys : {H : Type 0} (xs : List (Bor (List Cell) × Bor (List (Acc H)))) →
    IsSortedByKey (λ x. x.0.now) tuple_cmp xs → IsSorted tuple_cmp (map (λ x. x.0.now) xs)
sorted_lent_keys [] up = λ k d l h. absurd (omega arith)
sorted_lent_keys (x ∷ xs) up = λ k d l h.
    let n : k + 1 < length (x ∷ xs) = omega (arith, length-map (x ∷ xs) (λ t. t.0.now)) in
    let a = get_or-map (λ t. t.0.now) (x ∷ xs) (k + 1) x d n in
    let m : k < length (x ∷ xs) = omega arith in
    let b = get_or-map (λ t. t.0.now) (x ∷ xs) k x d m in
    rw (a, b) (up k x l n)

pub sorted_lent : {H : Type 0} (xs : List (Bor (List Cell) × Bor (List (Acc H)))) →
    IsSortedByKey (λ x. x.0.now) tuple_cmp xs → IsSorted tuple_cmp (keys_of (lent xs))
sorted_lent xs up = subst (IsSorted tuple_cmp) (sym (keys_lent xs)) (sorted_lent_keys xs up)
