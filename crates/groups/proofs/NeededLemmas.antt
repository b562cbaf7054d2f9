-- The columns that a plan needs, one after another.
use Rattle.std.specs.Prelude.{◌≡◌, ℕ, zero, suc, ◌+◌, ◌<◌, ◌≤◌, ◌||◌, Bool, true, false, List, [], ◌∷◌, ◌++◌, length, take, nat_eq, Some, if◌then◌else◌, refl}
use Rattle.std.specs.List.{AllByRecursion, Contains, concat, flat_map, fold, list_any, range_with_len}
use Rattle.std.proofs.Common.{get_or, ap, sym, ◌∙◌, subst, arith}
use Rattle.std.proofs.lemmas.List.{append_assoc, append-nil, map-id, take_more}
use Rattle.std.proofs.lemmas.List.Elements.{All-contains, All-from_recursion}
use Rattle.std.proofs.lemmas.List.FromFn.{map-range_with_len_more}
use Rattle.std.proofs.lemmas.Map.Views.{exact_unsigned_eq}
use Rattle.std.proofs.lemmas.Simd.{pick_l_whole}
use Rattle.cells.specs.Values.{RowValue}
use Rattle.columns.specs.Columns.{ColumnsValue, HaveAll, has}
use Rattle.groups.specs.Accumulators.{aggregations_of}
use Rattle.groups.specs.Needed.{Serve, named_by, read_by, read_by_all}
use Rattle.groups.specs.Numbered.{no_row, picked_rows}
use Rattle.groups.specs.declared.aggregation.Aggregation.{Aggregation}
use Rattle.query.specs.Different.{different, with_new}
use Rattle.query.specs.Names.{leaves_of, test_leaves, tests_of}
use Rattle.query.specs.Plans.{PlanTree}
use Rattle.query.specs.Trees.{And, PredicateTree, predicates_of}
use Rattle.query.specs.declared.test.Test.{Test}

module _ (P : ℕ → Type 0) where
  pub all_before : (xs ys : List ℕ) → AllByRecursion P (xs ++ ys) → AllByRecursion P xs × AllByRecursion P ys
  all_before [] ys all = (tt, all)
  all_before (x ∷ xs) ys all = let rest = all_before xs ys all.1 in ((all.0, rest.0), rest.1)

  pub all_after : (xs ys : List ℕ) → AllByRecursion P xs → AllByRecursion P ys → AllByRecursion P (xs ++ ys)
  all_after [] ys one two = two
  all_after (x ∷ xs) ys one two = (one.0, all_after xs ys one.1 two)

  -- what all different ones have, all have, and the other way round
  found_or : (y x : ℕ) (b : Bool) (rest : Bool) → nat_eq y x ≡ b → (b || rest) ≡ true → P y → (rest ≡ true → P x) → P x
  found_or y x true rest is e here later = subst P (exact_unsigned_eq y x is) here
  found_or y x false rest is e here later = later e

  found_one : (found : List ℕ) (x : ℕ) → list_any (λ y. nat_eq y x) found ≡ true → AllByRecursion P found → P x
  found_one [] x any all = absurd (none any)
    where
      none : false ≡ true → ⊥
      none e = cc
  found_one (y ∷ found) x any all = found_or y x (nat_eq y x) (list_any (λ z. nat_eq z x) found) refl any all.0 (λ e. found_one found x e all.1)

  with_all : (found : List ℕ) (x : ℕ) → AllByRecursion P (with_new nat_eq found x) → AllByRecursion P found × P x
  with_all found x = go (list_any (λ y. nat_eq y x) found) refl
    where
      go : (b : Bool) → list_any (λ y. nat_eq y x) found ≡ b → AllByRecursion P (if b then found else found ++ x ∷ []) → AllByRecursion P found × P x
      go true is all = (all, found_one found x is all)
      go false is all = let both = all_before found (x ∷ []) all in (both.0, (both.1).0)

  with_one : (found : List ℕ) (x : ℕ) → AllByRecursion P found → P x → AllByRecursion P (with_new nat_eq found x)
  with_one found x all one = go (list_any (λ y. nat_eq y x) found)
    where
      go : (b : Bool) → AllByRecursion P (if b then found else found ++ x ∷ [])
      go true = all
      go false = all_after found (x ∷ []) all (one, tt)

  each_from : (found xs : List ℕ) → AllByRecursion P (fold (with_new nat_eq) found xs) → AllByRecursion P found × AllByRecursion P xs
  each_from found [] all = (all, tt)
  each_from found (x ∷ xs) all =
      let rest = each_from (with_new nat_eq found x) xs all in
      let here = with_all found x rest.0 in
      (here.0, (here.1, rest.1))

  each_to : (found xs : List ℕ) → AllByRecursion P found → AllByRecursion P xs → AllByRecursion P (fold (with_new nat_eq) found xs)
  each_to found [] all rest = all
  each_to found (x ∷ xs) all rest = each_to (with_new nat_eq found x) xs (with_one found x all rest.0) rest.1

  pub all_from_different : (xs : List ℕ) → AllByRecursion P (different nat_eq xs) → AllByRecursion P xs
  all_from_different xs all = (each_from [] xs all).1

  pub all_different : (xs : List ℕ) → AllByRecursion P xs → AllByRecursion P (different nat_eq xs)
  all_different xs all = each_to [] xs tt all

-- ---- what is there for a plan
pub sets_there : (columns : ColumnsValue) (sets : List (List ℕ)) → HaveAll (concat sets) columns → AllByRecursion (λ set. HaveAll set columns) sets
sets_there columns [] all = tt
sets_there columns (s ∷ sets) all =
    let both = all_before (λ index. has columns index ≡ true) s (concat sets) all in
    (both.0, sets_there columns sets both.1)

pub serve_sets : (plan : PlanTree) (columns : ColumnsValue) → Serve plan columns → AllByRecursion (λ set. HaveAll set columns) plan.sets
serve_sets plan columns serve =
    sets_there columns plan.sets (all_before (λ index. has columns index ≡ true) (concat plan.sets) (read_by_all (aggregations_of plan.items) ++ named_by plan.condition) serve).0

pub serve_read : (plan : PlanTree) (columns : ColumnsValue) → Serve plan columns → HaveAll (read_by_all (aggregations_of plan.items)) columns
serve_read plan columns serve =
    (all_before (λ index. has columns index ≡ true) (read_by_all (aggregations_of plan.items)) (named_by plan.condition)
    (all_before (λ index. has columns index ≡ true) (concat plan.sets) (read_by_all (aggregations_of plan.items) ++ named_by plan.condition) serve).1).0

pub serve_condition : (plan : PlanTree) (columns : ColumnsValue) (p : PredicateTree (Test ℕ)) → Some p ≡ plan.condition → Serve plan columns → HaveAll (leaves_of p) columns
serve_condition plan columns p is serve =
    all_from_different (λ index. has columns index ≡ true) (leaves_of p)
    (subst (λ c. HaveAll (named_by c) columns) (sym is)
    (all_before (λ index. has columns index ≡ true) (read_by_all (aggregations_of plan.items)) (named_by plan.condition)
    (all_before (λ index. has columns index ≡ true) (concat plan.sets) (read_by_all (aggregations_of plan.items) ++ named_by plan.condition) serve).1).1)

-- the leaves of each of the predicates
leaves_append : (xs ys : List (Test ℕ)) → flat_map test_leaves (xs ++ ys) ≡ flat_map test_leaves xs ++ flat_map test_leaves ys
leaves_append [] ys = refl
leaves_append (x ∷ xs) ys = ap (λ l. test_leaves x ++ l) (leaves_append xs ys) ∙ sym (append_assoc (test_leaves x) (flat_map test_leaves xs) (flat_map test_leaves ys))

pub each_there : (columns : ColumnsValue) (ps : List (PredicateTree (Test ℕ))) (i : ℕ) (p : PredicateTree (Test ℕ)) → i < length ps → p ≡ get_or ps i p → HaveAll (leaves_of (And (predicates_of ps))) columns →
    HaveAll (leaves_of p) columns
each_there columns [] i p h is all = absurd (omega (arith, h))
each_there columns (q ∷ ps) zero p h is all =
    subst (λ r. HaveAll (leaves_of r) columns) (sym is)
    (all_before (λ index. has columns index ≡ true) (leaves_of q) (leaves_of (And (predicates_of ps))) (subst (λ l. HaveAll l columns) (leaves_append (tests_of q) (tests_of (And (predicates_of ps)))) all)).0
each_there columns (q ∷ ps) (suc i) p h is all =
    each_there columns ps i p (omega (arith, h)) is
    (all_before (λ index. has columns index ≡ true) (leaves_of q) (leaves_of (And (predicates_of ps))) (subst (λ l. HaveAll l columns) (leaves_append (tests_of q) (tests_of (And (predicates_of ps)))) all)).1

-- ---- the lists, so far
pub sets_next : (sets : List (List ℕ)) (i : ℕ) (set : List ℕ) (old now new : List ℕ) → i < length sets → set ≡ get_or sets i set → now ≡ old ++ concat (take i sets) → new ≡ now ++ set →
    new ≡ old ++ concat (take (i + 1) sets)
sets_next sets i set old now new h is so e =
    e ∙ ap (λ l. l ++ set) so ∙ append_assoc old (concat (take i sets)) set ∙ ap (λ l. old ++ l) (last (take i sets) set ∙ ap (λ s. concat (take i sets ++ s ∷ [])) is ∙ ap concat (sym (take_more sets i set h)))
  where
    last : (some : List (List ℕ)) (set : List ℕ) → concat some ++ set ≡ concat (some ++ set ∷ [])
    last [] set = sym (append-nil set)
    last (s ∷ some) set = append_assoc s (concat some) set ∙ ap (λ l. s ++ l) (last some set)

-- what the aggregate at i reads
pub read_at : (P : ℕ → Type 0) (aggregations : List Aggregation) (i : ℕ) (none : Aggregation) → i < length aggregations → AllByRecursion P (read_by_all aggregations) →
    AllByRecursion P (read_by (get_or aggregations i none).kind (get_or aggregations i none).column)
read_at P [] i none h all = absurd (omega (arith, h))
read_at P (a ∷ aggregations) zero none h all = (all_before P (read_by a.kind a.column) (read_by_all aggregations) all).0
read_at P (a ∷ aggregations) (suc i) none h all = read_at P aggregations i none (omega (arith, h)) (all_before P (read_by a.kind a.column) (read_by_all aggregations) all).1

-- ---- the same columns
pub have_same : (indexes : List ℕ) (old new : ColumnsValue) → ((index : ℕ) → has new index ≡ has old index) → HaveAll indexes old → HaveAll indexes new
have_same [] old new same all = tt
have_same (k ∷ indexes) old new same all = (same k ∙ all.0, have_same indexes old new same all.1)

-- each of some sets, of which all are among others
pub sets_among : (columns : ColumnsValue) (all some : List (List ℕ)) → AllByRecursion (Contains all) some → AllByRecursion (λ set. HaveAll set columns) all → AllByRecursion (λ set. HaveAll set columns) some
sets_among columns all [] among have = tt
sets_among columns all (s ∷ some) among have =
    (All-contains (λ set. HaveAll set columns) all s (All-from_recursion (λ set. HaveAll set columns) all have) among.0, sets_among columns all some among.1 have)

-- ---- the indexes of all rows
pub range_next : (n : ℕ) (rows added : List ℕ) → rows ≡ range_with_len 0 n → added ≡ rows ++ n ∷ [] → added ≡ range_with_len 0 (n + 1)
range_next n rows added are e =
    let here : 0 + n ≡ n = omega arith in
    e ∙ ap (λ l. l ++ n ∷ []) (are ∙ sym (map-id (range_with_len 0 n))) ∙ sym (map-range_with_len_more (λ k. k) 0 n n here) ∙ map-id (range_with_len 0 (n + 1))

pub all_within : (n : ℕ) → AllByRecursion (λ i. i < n) (range_with_len 0 n)
all_within n = go 0 n (omega arith)
  where
    go : (a k : ℕ) → a + k ≤ n → AllByRecursion (λ i. i < n) (range_with_len a k)
    go a zero h = tt
    go a (suc k) h = (omega (arith, h), go (a + 1) k (omega (arith, h)))

pub all_picked : (rows : List RowValue) (n : ℕ) → n ≡ length rows → picked_rows rows (range_with_len 0 n) ≡ rows
all_picked rows n is = pick_l_whole no_row rows n (sym is)
