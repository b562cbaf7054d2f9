-- The truth of a predicate, by what its leaves stand for.
use Rattle.std.proofs.Common.{◌≡◌, ℕ, true, false, List, [], ◌∷◌, ◌++◌, Some, drop, map, length, inl, inr, refl, sym, ap, ap₂, ◌∙◌, append_assoc, subst}
use Rattle.std.proofs.Math.Seq.{get_or-append_seam}
use Rattle.std.proofs.lemmas.Bool.{cases_Bool, eqb-true}
use Rattle.std.proofs.lemmas.Grind.{flat_map-append}
use Rattle.std.proofs.lemmas.List.{length-map, map-append}
use Rattle.std.specs.List.{flat_map, fold, list_any}
use Rattle.std.specs.Prelude.{⊤, nat_eq, option_map}
use Rattle.cells.specs.Values.{Table}
use Rattle.cells.specs.declared.schema.Column.{Column}
use Rattle.cells.specs.declared.total.Total.{Total}
use Rattle.cells.specs.declared.total.Total.TheVariants as total
use Rattle.query.specs.Different.{with_new}
use Rattle.query.specs.Having.{count_before, having_of, having_truth, numbered, with_leaf}
use Rattle.query.specs.Headings.{heading}
use Rattle.query.specs.Names.{leaves_of, operand_leaves, test_leaves, tests_of, tests_of_each}
use Rattle.query.specs.Naming.{AgreeAt, columns_named}
use Rattle.query.specs.Plans.{index_of, plan_of, resolved_condition, resolved_item}
use Rattle.query.specs.Resolving.{resolved, resolved_each, resolved_operand, resolved_test}
use Rattle.query.specs.Trees.{PredicateTree, Or, And, Not, Holds, PredicateTrees, NoPredicates, MorePredicates}
use Rattle.query.specs.Truth.{all_truth, among, and_truth, any_truth, between, compared, is_null, negated, not_truth, or_truth, test_truth, truth, truth_by, value_at, value_of}
use Rattle.query.specs.Values.{HavingTree, QueryTree}
use Rattle.query.specs.declared.item.Item.{Item}
use Rattle.query.specs.declared.test.Operand.{Operand}
use Rattle.query.specs.declared.test.Operand.TheVariants as operand
use Rattle.query.specs.declared.test.Test.{Test}
use Rattle.query.specs.declared.test.Test.TheVariants.{Compare, IsNull, Between, In}

-- ---- by the value at each leaf's index
module _ {C S : Type 0} (index : S → C → ℕ) (after : S → C → S) (value : C → Total) (values : List Total) where
  -- each leaf's value is at its index
  abbrev Stand : S → List C → Type 0
  Stand s [] = ⊤
  Stand s (c ∷ cs) = (value_at values (index s c) ≡ value c) × Stand (after s c) cs

  parts : (s : S) (cs ds : List C) → Stand s (cs ++ ds) → Stand s cs × Stand (fold after s cs) ds
  parts s [] ds h = (tt, h)
  parts s (c ∷ cs) ds h = let more = parts (after s c) cs ds h.1 in ((h.0, more.0), more.1)

  same_value : (s : S) (a : Operand C) → Stand s (operand_leaves a) → value_of (value_at values) (resolved_operand index after s a) ≡ value_of value a
  same_value s (operand.Column c) h = h.0
  same_value s (operand.Literal l) h = refl

  same_test : (s : S) (t : Test C) → Stand s (test_leaves t) → test_truth (value_at values) (resolved_test index after s t) ≡ test_truth value t
  same_test s (Compare a c b) h =
      let hs = parts s (operand_leaves a) (operand_leaves b) h in
      ap₂ (λ x y. compared x c y) (same_value s a hs.0) (same_value (fold after s (operand_leaves a)) b hs.1)
  same_test s (IsNull a n) h = ap (λ x. negated n (is_null x)) (same_value s a h)
  same_test s (Between a low high n) h =
      let us = parts s (operand_leaves a) (operand_leaves low ++ operand_leaves high) h in
      let s1 = fold after s (operand_leaves a) in
      let vs = parts s1 (operand_leaves low) (operand_leaves high) us.1 in
      let s2 = fold after s1 (operand_leaves low) in
      ap (λ x. negated n (between x (value_of (value_at values) (resolved_operand index after s1 low)) (value_of (value_at values) (resolved_operand index after s2 high)))) (same_value s a us.0)
      ∙ ap₂ (λ x y. negated n (between (value_of value a) x y)) (same_value s1 low vs.0) (same_value s2 high vs.1)
  same_test s (In a ls n) h = ap (λ x. negated n (among x ls)) (same_value s a h)

  -- the leaves of the first predicate, and those of the others
  first : (s : S) (p : PredicateTree (Test C)) (ps : PredicateTrees (Test C)) → Stand s (flat_map test_leaves (tests_of p ++ tests_of_each ps))
      → Stand s (leaves_of p) × Stand (fold after s (leaves_of p)) (flat_map test_leaves (tests_of_each ps))
  first s p ps h = parts s (leaves_of p) (flat_map test_leaves (tests_of_each ps)) (subst (Stand s) (flat_map-append test_leaves (tests_of p) (tests_of_each ps)) h)

  mutual
    pub same_truth : (s : S) (p : PredicateTree (Test C)) → Stand s (leaves_of p) → truth (resolved index after s p) values ≡ truth_by value p
    same_truth s (Or ps) h = same_any s ps h
    same_truth s (And ps) h = same_all s ps h
    same_truth s (Not p) h = ap not_truth (same_truth s p h)
    same_truth s (Holds t) h = same_test s t (parts s (test_leaves t) [] h).0

    same_any : (s : S) (ps : PredicateTrees (Test C)) → Stand s (flat_map test_leaves (tests_of_each ps)) → any_truth (value_at values) (resolved_each index after s ps) ≡ any_truth value ps
    same_any s NoPredicates h = refl
    same_any s (MorePredicates p ps) h = let hs = first s p ps h in ap₂ or_truth (same_truth s p hs.0) (same_any (fold after s (leaves_of p)) ps hs.1)

    same_all : (s : S) (ps : PredicateTrees (Test C)) → Stand s (flat_map test_leaves (tests_of_each ps)) → all_truth (value_at values) (resolved_each index after s ps) ≡ all_truth value ps
    same_all s NoPredicates h = refl
    same_all s (MorePredicates p ps) h = let hs = first s p ps h in ap₂ and_truth (same_truth s p hs.0) (same_all (fold after s (leaves_of p)) ps hs.1)

-- ---- leaves by their numbers, and their values in a list
module _ {C : Type 0} (value : C → Total) where
  stand : (before cs : List C) → Stand count_before with_leaf value (map value (before ++ cs)) before cs
  stand before [] = tt
  stand before (c ∷ cs) = (
    rw (map-append value before (c ∷ cs)) (at (map value before) (length before) (sym (length-map before value))),
    subst (λ l. Stand count_before with_leaf value (map value l) (with_leaf before c) cs) (append_assoc before (c ∷ []) cs) (stand (with_leaf before c) cs),
  ) where
    at : (xs : List Total) (n : ℕ) → n ≡ length xs → value_at (xs ++ value c ∷ map value cs) n ≡ value c
    at xs n e = rw e (get_or-append_seam xs (value c) (map value cs) total.Null)

  pub numbered_truth : (p : PredicateTree (Test C)) → truth (numbered p) (map value (leaves_of p)) ≡ truth_by value p
  numbered_truth p = same_truth count_before with_leaf value (map value (leaves_of p)) [] p (stand [] (leaves_of p))

-- ---- names by the indexes of their columns
named : (columns : List Column) (cells : List Total) (names : List (List ℕ)) → Stand index_of (λ cs n. cs) (λ n. value_at cells (index_of columns n)) cells columns names
named columns cells [] = tt
named columns cells (n ∷ names) = (refl, named columns cells names)

pub condition_truth : (columns : List Column) (p : PredicateTree (Test (List ℕ))) (cells : List Total) → truth (resolved_condition columns p) cells ≡ truth_by (λ n. value_at cells (index_of columns n)) p
condition_truth columns p cells = same_truth index_of (λ cs n. cs) (λ n. value_at cells (index_of columns n)) cells columns p (named columns cells (leaves_of p))

-- ---- HAVING over the values of a plan's items
having_values : (columns : List Column) (value : Item ℕ → Total) (is js : List (Item (List ℕ))) →
    drop (length (map heading is)) (map value (map (resolved_item columns) (is ++ js))) ≡ map (λ i. value (resolved_item columns i)) js
having_values columns value [] [] = refl
having_values columns value [] (j ∷ js) = ap (λ vs. value (resolved_item columns j) ∷ vs) (having_values columns value [] js)
having_values columns value (i ∷ is) js = having_values columns value is js

pub having_is : (t : Table) (q : QueryTree) (p : PredicateTree (Test (Item (List ℕ)))) (value : Item ℕ → Total) → q.having ≡ having_of p →
    option_map (λ n. truth n (drop (length (plan_of t q).headings) (map value (plan_of t q).items))) (plan_of t q).having ≡ Some (having_truth (λ i. value (resolved_item t.columns i)) p)
having_is t q p value e =
    ap (λ (h : HavingTree). option_map (λ n. truth n (drop (length (map heading q.items)) (map value (map (resolved_item t.columns) (q.items ++ h.items))))) h.predicate) e
    ∙ ap (λ vs. Some (truth (numbered p) vs)) (having_values t.columns value q.items (leaves_of p)) ∙ ap Some (numbered_truth (λ i. value (resolved_item t.columns i)) p)

-- ---- values that are alike at the columns that a predicate names
module _ (xs ys : List Total) where
  -- columns that are named again change nothing
  all_of_one : (ks : List ℕ) (k : ℕ) → AgreeAt (with_new nat_eq ks k) xs ys → AgreeAt ks xs ys × (value_at xs k ≡ value_at ys k)
  all_of_one ks k h = elim (cases_Bool (list_any (λ j. nat_eq j k) ks)) [
    | inl among ↦ let all : AgreeAt ks xs ys = rw among at h in (all, there ks among all)
    | inr new ↦ let more : AgreeAt (ks ++ k ∷ []) xs ys = rw new at h in behind ks more
  ] where
    there : (js : List ℕ) → list_any (λ j. nat_eq j k) js ≡ true → AgreeAt js xs ys → value_at xs k ≡ value_at ys k
    there [] e a = absurd (let bad : false ≡ true = e in cc)
    there (j ∷ js) e a = elim (cases_Bool (nat_eq j k)) [
      | inl hit ↦ subst (λ i. value_at xs i ≡ value_at ys i) (eqb-true j k hit) a.0
      | inr miss ↦ there js (rw miss at e) a.1
    ]

    behind : (js : List ℕ) → AgreeAt (js ++ k ∷ []) xs ys → AgreeAt js xs ys × (value_at xs k ≡ value_at ys k)
    behind [] a = (tt, a.0)
    behind (j ∷ js) a = let more = behind js a.1 in ((a.0, more.0), more.1)

  all_named : (ks ls : List ℕ) → AgreeAt (fold (with_new nat_eq) ks ls) xs ys → AgreeAt ks xs ys × (map (value_at xs) ls ≡ map (value_at ys) ls)
  all_named ks [] h = (h, refl)
  all_named ks (l ∷ ls) h =
      let more = all_named (with_new nat_eq ks l) ls h in
      let one = all_of_one ks l more.0 in
      (one.0, ap₂ (λ v vs. v ∷ vs) one.1 more.1)

pub decided_by_columns : (p : PredicateTree (Test ℕ)) (xs ys : List Total) → AgreeAt (columns_named p) xs ys → truth p xs ≡ truth p ys
decided_by_columns p xs ys h =
    sym (numbered_truth (value_at xs) p) ∙ ap (truth (numbered p)) (all_named xs ys [] (leaves_of p) h).1 ∙ numbered_truth (value_at ys) p
