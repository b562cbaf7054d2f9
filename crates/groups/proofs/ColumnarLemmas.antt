-- Groups made from columns.
use Rattle.std.specs.Prelude.{◌≡◌, ◌≢◌, ℕ, zero, suc, ◌+◌, ◌<◌, ◌≤◌, ◌==◌, ◌⊎◌, Bool, true, false, List, [], ◌∷◌, ◌++◌, drop, length, map, take, refl}
use Rattle.std.specs.List.{AllByRecursion, AllZip, Contains, flat_map, range_with_len}
use Rattle.std.specs.List.Sorted.{IsPermutation}
use Rattle.std.proofs.Common.{get_or, ap, ap₂, sym, ◌∙◌, subst, arith, eq-eqb, inl, inr}
use Rattle.std.proofs.lemmas.Bool.{ne_eqb}
use Rattle.std.proofs.lemmas.Bool.Decides.{eqb_tells}
use Rattle.std.proofs.lemmas.List.{append_assoc, drop_more, get_or_read, length-append, length-drop, length-map, map-append, take_more}
use Rattle.std.proofs.lemmas.List.Folds.{flat_map-map}
use Rattle.std.proofs.lemmas.List.FromFn.{map-range_with_len_more}
use Rattle.std.proofs.lemmas.List.Sorted.{IsPermutation-append_comm, IsPermutation-append_left, IsPermutation-append_right, IsPermutation-refl, IsPermutation-trans}
use Rattle.std.proofs.lemmas.Map.Views.{exact_unsigned_eq}
use Rattle.aggs.specs.Accs.{acc_of}
use Rattle.aggs.specs.declared.acc.Acc.{Acc}
use Rattle.cells.specs.Values.{RowValue}
use Rattle.cells.specs.declared.cell.Cell.{Cell}
use Rattle.columns.specs.Columns.{ColumnsValue, HaveAll}
use Rattle.groups.specs.Accumulators.{accs_of, no_rows}
use Rattle.groups.specs.Bags.{AreParts, Covers, Group, IsPart}
use Rattle.groups.specs.Columnar.{TalliesRows, accs_at, groups_from, no_acc}
use Rattle.groups.specs.Groups.{cell_at, tuple_of}
use Rattle.groups.specs.Numbered.{AreNumbered, NumberAll}
use Rattle.groups.specs.Pools.{IsPool, sets_of}
use Rattle.groups.specs.Tallying.{keep_if, those_of}
use Rattle.groups.specs.declared.aggregation.Aggregation.{Aggregation}
use Rattle.groups.specs.declared.pool.SetBag.{SetBag}
use Rattle.groups.proofs.TuplesLemmas.{all_push, take_next, zip_push}

-- ---- each thing is of one number
module _ {X : Type 0} where
  same_together : (f g : ℕ → List X) (k a n : ℕ) → k < a → ((m : ℕ) → m ≢ k → g m ≡ f m) → flat_map g (range_with_len a n) ≡ flat_map f (range_with_len a n)
  same_together f g k a zero h same = refl
  same_together f g k a (suc n) h same = ap₂ (λ (x y : List X). x ++ y) (same a (λ e. omega (arith, e, h))) (same_together f g k (a + 1) n (omega (arith, h)) same)

  to_middle : (x : X) (xs ys : List X) → IsPermutation (x ∷ xs ++ ys) (xs ++ x ∷ ys)
  to_middle x xs ys = subst (IsPermutation (x ∷ xs ++ ys)) (append_assoc xs (x ∷ []) ys) (IsPermutation-append_left ys (x ∷ xs) (xs ++ x ∷ []) (IsPermutation-append_comm (x ∷ []) xs))

  insert_one : (f g : ℕ → List X) (x : X) (k a n : ℕ) → a ≤ k → k < a + n → g k ≡ x ∷ f k → ((m : ℕ) → m ≢ k → g m ≡ f m) →
      IsPermutation (x ∷ flat_map f (range_with_len a n)) (flat_map g (range_with_len a n))
  insert_one f g x k a zero low high is same = absurd (omega (arith, low, high))
  insert_one f g x k a (suc n) low high is same =
      here_or_later (eqb_tells a k) (λ other. insert_one f g x k (a + 1) n (omega (arith, low, other)) (omega (arith, high)) is same)
    where
      rest : (ℕ → List X) → List X
      rest h = flat_map h (range_with_len (a + 1) n)

      here_or_later : (((a == k) ≡ true) × (a ≡ k)) ⊎ (((a == k) ≡ false) × (a ≢ k)) → (a ≢ k → IsPermutation (x ∷ rest f) (rest g)) → IsPermutation (x ∷ f a ++ rest f) (g a ++ rest g)
      here_or_later (inl e) later =
          let here : g a ≡ x ∷ f a = subst (λ j. g j ≡ x ∷ f j) (sym e.1) is in
          subst (IsPermutation (x ∷ f a ++ rest f)) (ap₂ (λ (p q : List X). p ++ q) (sym here) (sym (same_together f g k (a + 1) n (omega (arith, e.1)) same)))
          (IsPermutation-refl (x ∷ f a ++ rest f))
      here_or_later (inr other) later =
          subst (λ p. IsPermutation (x ∷ f a ++ rest f) (p ++ rest g)) (sym (same a other.1))
          (IsPermutation-trans _ _ _ (to_middle x (f a) (rest f)) (IsPermutation-append_right (f a) (x ∷ rest f) (rest g) (later other.1)))

  none_together : (a n : ℕ) → flat_map {A = X} (λ (m : ℕ). those_of {X = X} m [] []) (range_with_len a n) ≡ []
  none_together a zero = refl
  none_together a (suc n) = none_together (a + 1) n

  pub all_together : (count : ℕ) (numbers : List ℕ) (xs : List X) → length numbers ≡ length xs → AllByRecursion (λ n. n < count) numbers →
      IsPermutation xs (flat_map (λ n. those_of n numbers xs) (range_with_len 0 count))
  all_together count [] [] e all = subst (IsPermutation []) (sym (none_together 0 count)) (IsPermutation-refl [])
  all_together count [] (x ∷ xs) e all = absurd (omega (arith, e))
  all_together count (k ∷ numbers) [] e all = absurd (omega (arith, e))
  all_together count (k ∷ numbers) (x ∷ xs) e all =
      IsPermutation-trans _ _ _
      (IsPermutation-append_right (x ∷ []) xs _ (all_together count numbers xs (omega (arith, e)) all.1))
      (insert_one (λ n. those_of n numbers xs) (λ n. keep_if (k == n) x (those_of n numbers xs)) x k 0 count (omega arith) (omega (arith, all.0))
      (ap (λ b. keep_if b x (those_of k numbers xs)) (eq-eqb k k refl))
      (λ m other. ap (λ b. keep_if b x (those_of m numbers xs)) (ne_eqb k m (λ z. other (sym z)))))

-- ---- the groups that are listed
pub group_next : {H : Type 0} (tuples : List (List Cell)) (tallies : List (List (Acc H))) (groups added : List (Group H)) (i : ℕ) (tuple : List Cell) (accs : List (Acc H)) → i < length tuples →
    tuple ≡ get_or tuples i tuple → accs ≡ accs_at i tallies → groups ≡ map (λ n. (get_or tuples n [], accs_at n tallies)) (range_with_len 0 i) → added ≡ groups ++ (tuple, accs) ∷ [] →
    added ≡ map (λ n. (get_or tuples n [], accs_at n tallies)) (range_with_len 0 (i + 1))
group_next {H} tuples tallies groups added i tuple accs h at are so e =
    let f : ℕ → Group H = λ n. (get_or tuples n [], accs_at n tallies) in
    let here : 0 + i ≡ i = omega arith in
    e ∙ ap₂ (λ (l : List (Group H)) (g : Group H). l ++ g ∷ []) so (ap₂ (λ (t : List Cell) (a : List (Acc H)). (t, a)) (get_or_read tuples i tuple h at []) are) ∙
    sym (map-range_with_len_more f 0 i i here)

-- groups of the first tuples are listed, and these tuples are left
pub record ListedTo {H : Type 0} (tuples : List (List Cell)) (tallies : List (List (Acc H))) (groups : List (Group H)) (left : List (List Cell)) : Type 0 where
  pub made : groups ≡ map (λ n. (get_or tuples n [], accs_at n tallies)) (range_with_len 0 (length groups))
  pub rest : left ≡ drop (length groups) tuples
  pub within : length groups ≤ length tuples

module _ {H : Type 0} (tuples : List (List Cell)) (tallies : List (List (Acc H))) where
  pub listed_none : (groups : List (Group H)) (left : List (List Cell)) → groups ≡ [] → left ≡ tuples → ListedTo tuples tallies groups left
  listed_none groups left none all = subst (λ l. ListedTo tuples tallies l left) (sym none) (record { made = refl; rest = all; within = omega arith })

  module _ (groups : List (Group H)) (left : List (List Cell)) (now : ListedTo tuples tallies groups left) where
    module _ (tuple : List Cell) (later : List (List Cell)) (e : left ≡ tuple ∷ later) where
      pub listed_below : length groups < length tuples
      listed_below = omega (arith, ap (λ l. length l) (sym now.rest ∙ e), length-drop (length groups) tuples)

      next_is : tuple ∷ later ≡ get_or tuples (length groups) tuple ∷ drop (length groups + 1) tuples
      next_is = sym e ∙ now.rest ∙ drop_more tuples (length groups) tuple listed_below

      pub listed_one : (accs : List (Acc H)) (added : List (Group H)) → accs ≡ accs_at (length groups) tallies → added ≡ groups ++ (tuple, accs) ∷ [] → ListedTo tuples tallies added later
      listed_one accs added are is =
          let long : length added ≡ length groups + 1 = ap (λ l. length l) is ∙ length-append groups ((tuple, accs) ∷ []) in
          record {
            made = group_next tuples tallies groups added (length groups) tuple accs listed_below (ap (λ l. get_or l 0 tuple) next_is) are now.made is ∙
                ap (λ n. map (λ n. (get_or tuples n [], accs_at n tallies)) (range_with_len 0 n)) (sym long);
            rest = ap (λ l. drop 1 l) next_is ∙ ap (λ n. drop n tuples) (sym long);
            within = omega (arith, long, listed_below);
          }

-- ---- the aggregates, one after another
pub zip_next : {A B C : Type 0} (R : A → B → Type 0) (f : C → B) (xs : List A) (ys added : List C) (i : ℕ) (x d : A) (y : C) → i < length xs → x ≡ get_or xs i d → AllZip R (take i xs) (map f ys) →
    R x (f y) → added ≡ ys ++ y ∷ [] → AllZip R (take (i + 1) xs) (map f added)
zip_next {A} {B} {C} R f xs ys added i x d y h at all one e =
    subst (λ l. AllZip R (take (i + 1) xs) (map f l)) (sym e)
    (subst (AllZip R (take (i + 1) xs)) (sym (map-append f ys (y ∷ [])))
    (subst (λ l. AllZip R l (map f ys ++ f y ∷ [])) (sym (take_next xs i d x h at)) (zip_push R (take i xs) (map f ys) x (f y) all one)))

-- ---- the groups cover the rows
pub number_all : (set : List ℕ) (rows : List RowValue) (numbers : List ℕ) (tuples : List (List Cell)) (count : ℕ) → length rows ≡ count → AreNumbered set rows numbers tuples → NumberAll count numbers tuples
number_all set rows numbers tuples count is now = record {
  counted = sym (length-map numbers (λ n. get_or tuples n [])) ∙ ap (λ l. length l) now.stand ∙ length-map rows (tuple_of set) ∙ is;
  within = now.within;
}

pub tallies_long : {H : Type 0} (rows : List RowValue) (numbers : List ℕ) (count : ℕ) (aggregations : List Aggregation) (tallies : List (List (Acc H))) →
    AllZip (TalliesRows rows numbers count) aggregations tallies → AllByRecursion (λ accs. length accs ≡ count) tallies
tallies_long rows numbers count [] [] all = tt
tallies_long rows numbers count [] (t ∷ tallies) all = absurd all
tallies_long rows numbers count (a ∷ aggregations) [] all = absurd all
tallies_long rows numbers count (a ∷ aggregations) (t ∷ tallies) all = ((all.0).counted, tallies_long rows numbers count aggregations tallies all.1)

those_mapped : {X Y : Type 0} (f : X → Y) (n : ℕ) (numbers : List ℕ) (xs : List X) → those_of n numbers (map f xs) ≡ map f (those_of n numbers xs)
those_mapped f n [] xs = refl
those_mapped f n (k ∷ numbers) [] = refl
those_mapped {X} {Y} f n (k ∷ numbers) (x ∷ xs) = kept (k == n) (those_of n numbers (map f xs)) (those_of n numbers xs) (those_mapped f n numbers xs)
  where
    kept : (b : Bool) (ys : List Y) (zs : List X) → ys ≡ map f zs → keep_if b (f x) ys ≡ map f (keep_if b x zs)
    kept true ys zs e = ap (λ (l : List Y). f x ∷ l) e
    kept false ys zs e = e

module _ {H : Type 0} (aggregations : List Aggregation) (set : List ℕ) (rows : List RowValue) (numbers : List ℕ) (tuples : List (List Cell)) (tallies : List (List (Acc H))) where
  accs_are : (n count : ℕ) → n < count → (some : List Aggregation) (lists : List (List (Acc H))) → AllZip (TalliesRows rows numbers count) some lists → accs_at n lists ≡ accs_of some (those_of n numbers rows)
  accs_are n count h [] [] all = refl
  accs_are n count h [] (t ∷ lists) all = absurd all
  accs_are n count h (a ∷ some) [] all = absurd all
  accs_are n count h (a ∷ some) (t ∷ lists) all =
      ap₂ (λ (x : Acc H) (xs : List (Acc H)). x ∷ xs) ((all.0).each n h no_acc ∙ ap (acc_of a.kind) (those_mapped (cell_at a.column) n numbers rows)) (accs_are n count h some lists all.1)

  alike_by : (n : ℕ) (ks : List ℕ) (rs : List RowValue) → map (λ k. get_or tuples k []) ks ≡ map (tuple_of set) rs → AllByRecursion (λ r. tuple_of set r ≡ get_or tuples n []) (those_of n ks rs)
  alike_by n [] rs e = tt
  alike_by n (k ∷ ks) [] e = tt
  alike_by n (k ∷ ks) (r ∷ rs) e =
      kept (k == n) (λ b. b) (ap (λ l. get_or l 0 []) e) (alike_by n ks rs (ap (λ l. drop 1 l) e))
    where
      kept : (b : Bool) → (b ≡ true → k == n ≡ true) → get_or tuples k [] ≡ tuple_of set r → AllByRecursion (λ r. tuple_of set r ≡ get_or tuples n []) (those_of n ks rs) →
          AllByRecursion (λ r. tuple_of set r ≡ get_or tuples n []) (keep_if b r (those_of n ks rs))
      kept true same first rest = (sym first ∙ ap (λ j. get_or tuples j []) (exact_unsigned_eq k n (same refl)), rest)
      kept false same first rest = rest

some_there : (n i : ℕ) (numbers : List ℕ) (rows : List RowValue) → length numbers ≡ length rows → i < length numbers → get_or numbers i n ≡ n → no_rows (those_of n numbers rows) ≡ false
some_there n i [] rows e h is = absurd (omega (arith, h))
some_there n i (k ∷ numbers) [] e h is = absurd (omega (arith, e))
some_there n zero (k ∷ numbers) (r ∷ rows) e h is = ap (λ b. no_rows (keep_if b r (those_of n numbers rows))) (eq-eqb k n is)
some_there n (suc i) (k ∷ numbers) (r ∷ rows) e h is = kept (k == n) (some_there n i numbers rows (omega (arith, e)) (omega (arith, h)) is)
  where
    kept : (b : Bool) → no_rows (those_of n numbers rows) ≡ false → no_rows (keep_if b r (those_of n numbers rows)) ≡ false
    kept true rest = refl
    kept false rest = rest

parts_by : {H : Type 0} (aggregations : List Aggregation) (set : List ℕ) (f : ℕ → Group H) (p : ℕ → List RowValue) (a n : ℕ) →
    ((k : ℕ) → a ≤ k → k < a + n → IsPart aggregations set (f k) (p k)) → AreParts aggregations set (map f (range_with_len a n)) (map p (range_with_len a n))
parts_by aggregations set f p a zero each = tt
parts_by aggregations set f p a (suc n) each =
    (each a (omega arith) (omega arith), parts_by aggregations set f p (a + 1) n (λ k low high. each k (omega (arith, low)) (omega (arith, high))))

pub covers_rows : {H : Type 0} (aggregations : List Aggregation) (set : List ℕ) (rows : List RowValue) (numbers : List ℕ) (tuples : List (List Cell)) (tallies : List (List (Acc H))) →
    AreNumbered set rows numbers tuples → AllZip (TalliesRows rows numbers (length tuples)) aggregations tallies → Covers aggregations set rows (groups_from tuples tallies)
covers_rows {H} aggregations set rows numbers tuples tallies now all =
    let same : length numbers ≡ length rows = (number_all set rows numbers tuples (length rows) refl now).counted in
    record {
      parts = map (λ n. those_of n numbers rows) (range_with_len 0 (length tuples));
      each = parts_by aggregations set (λ n. (get_or tuples n [], accs_at n tallies)) (λ n. those_of n numbers rows) 0 (length tuples) (λ n low high.
          let h : n < length tuples = omega (arith, high) in
          let met : Contains numbers n = now.met n h in
          record {
            some = some_there n met.0 numbers rows same met.1 met.2;
            alike = alike_by aggregations set rows numbers tuples tallies n numbers rows now.stand;
            accs = accs_are aggregations set rows numbers tuples tallies n (length tuples) h aggregations tallies all;
          });
      all = subst (IsPermutation rows) (sym (flat_map-map (λ part. part) (λ n. those_of n numbers rows) (range_with_len 0 (length tuples))))
          (all_together (length tuples) numbers rows same now.within);
    }

-- the lists of accumulators are as long as those of tuples
pub each_long : {A B : Type 0} (f : A → List B) (count : ℕ) (xs : List A) → AllByRecursion (λ l. length l ≡ count) (map f xs) → AllByRecursion (λ x. length (f x) ≡ count) xs
each_long f count [] all = tt
each_long f count (x ∷ xs) all = (all.0, each_long f count xs all.1)

-- ---- source by source
module _ {H : Type 0} where
  -- the columns of the set of the source at i
  pub set_there : (columns : ColumnsValue) (sources : List (SetBag H)) (i : ℕ) (source : SetBag H) → i < length sources → source ≡ get_or sources i source → AllByRecursion (λ set. HaveAll set columns) (sets_of sources) →
      HaveAll source.set.items columns
  set_there columns [] i source h is all = absurd (omega (arith, h))
  set_there columns (s ∷ sources) zero source h is all = subst (λ (f : SetBag H). HaveAll f.set.items columns) (sym is) all.0
  set_there columns (s ∷ sources) (suc i) source h is all = set_there columns sources i source (omega (arith, h)) is all.1

  pub sets_next : (sources : List (SetBag H)) (i : ℕ) (source new : SetBag H) (filled added : List (SetBag H)) → i < length sources → source ≡ get_or sources i source → new.set.items ≡ source.set.items →
      sets_of filled ≡ sets_of (take i sources) → added ≡ filled ++ new ∷ [] → sets_of added ≡ sets_of (take (i + 1) sources)
  sets_next sources i source new filled added h is same sets e =
      ap sets_of e ∙ map-append (λ (f : SetBag H). f.set.items) filled (new ∷ []) ∙ ap₂ (λ (l : List (List ℕ)) (s : List ℕ). l ++ s ∷ []) sets same ∙
      sym (map-append (λ (f : SetBag H). f.set.items) (take i sources) (source ∷ [])) ∙ ap (λ (f : SetBag H). sets_of (take i sources ++ f ∷ [])) is ∙ ap sets_of (sym (take_more sources i source h))

  pub pool_next : (aggregations : List Aggregation) (rows : List RowValue) (new : SetBag H) (filled added : List (SetBag H)) → IsPool aggregations rows filled → Covers aggregations new.set.items rows new.bag →
      added ≡ filled ++ new ∷ [] → IsPool aggregations rows added
  pool_next aggregations rows new filled added pool covers e = record {
    each = subst (AllByRecursion (λ (f : SetBag H). Covers aggregations f.set.items rows f.bag)) (sym e) (all_push (λ (f : SetBag H). Covers aggregations f.set.items rows f.bag) filled new pool.each covers);
  }

-- what holds of the pair at i, where the first of the pair is also another's
pub zip_at : {A B C : Type 0} (R : A → B → Type 0) (f : C → B) (xs : List A) (ys : List C) (i : ℕ) (d wanted : A) (y : C) → i < length ys → get_or xs i d ≡ wanted → y ≡ get_or ys i y →
    AllZip R (take (length ys) xs) (map f ys) → R wanted (f y)
zip_at R f xs [] i d wanted y h is at all = absurd (omega (arith, h))
zip_at R f [] (z ∷ ys) i d wanted y h is at all = absurd all
zip_at R f (x ∷ xs) (z ∷ ys) zero d wanted y h is at all = subst (λ b. R wanted (f b)) (sym at) (subst (λ a. R a (f z)) is all.0)
zip_at R f (x ∷ xs) (z ∷ ys) (suc i) d wanted y h is at all = zip_at R f xs ys i d wanted y (omega (arith, h)) is at all.1
