-- A chain of OR or of AND, predicate by predicate.
use Rattle.std.proofs.Common.{◌≡◌, ℕ, ◌+◌, ◌<◌, ◌≤◌, Bool, true, false, ◌||◌, List, [], ◌∷◌, drop, get_or, length, ◌⊎◌, inl, inr, Vec, Box, Global, refl, sym, ap, ◌∙◌}
use Rattle.std.proofs.lemmas.List.{at_drop_all, at_drop_more}
use Rattle.std.proofs.lemmas.List.Folds.{list_any-append}
use Rattle.std.specs.List.{list_any}
use Rattle.cells.specs.declared.total.Total.{Total}
use Rattle.query.specs.Names.{tests_of, tests_of_each}
use Rattle.query.specs.PredicateViews.{predicate_tree}
use Rattle.query.specs.Trees.{PredicateTree, predicates_of}
use Rattle.query.specs.Truth.{all_truth, and_truth, any_truth, or_truth, truth, value_at}
use Rattle.query.specs.declared.predicate.Predicate.{Predicate}
use Rattle.query.specs.declared.predicate.PredicateForm.{PredicateForm}
use Rattle.query.specs.declared.predicate.PredicateForm.TheVariants as form
use Rattle.query.specs.declared.test.Test.{Test}
use Rattle.query.specs.declared.truth.Truth.{Truth}
use Rattle.query.specs.declared.truth.Truth.TheVariants.{True, False, Unknown}

-- ---- whether some test is as is asked
module _ {C : Type 0} (asked : Test C → Bool) where
  abbrev any_in : List (PredicateTree (Test C)) → Bool
  any_in ps = list_any asked (tests_of_each (predicates_of ps))

  pub chain_starts : (whole : PredicateTree (Test C)) (x : PredicateForm C) (inners : Vec (Predicate C) Global) (items : List (PredicateTree (Test C)))
      → predicate_tree x ≡ whole → items ≡ inners.items → (x ≡ form.Or inners) ⊎ (x ≡ form.And inners)
      → list_any asked (tests_of whole) ≡ list_any asked (tests_of_each (predicates_of items))
  chain_starts whole x inners items view all (inl e) = ap (λ p. list_any asked (tests_of p)) (sym view ∙ ap predicate_tree e) ∙ ap any_in (sym all)
  chain_starts whole x inners items view all (inr e) = ap (λ p. list_any asked (tests_of p)) (sym view ∙ ap predicate_tree e) ∙ ap any_in (sym all)

  module _ (some : Bool) (items : List (PredicateTree (Test C))) (k : ℕ) (kept : some ≡ list_any asked (tests_of_each (predicates_of (drop k items)))) where
    module _ (p : PredicateTree (Test C)) (within : k < length items) (is : p ≡ get_or items k p) where
      parts : some ≡ (list_any asked (tests_of p) || any_in (drop (k + 1) items))
      parts =
          kept ∙ at_drop_more any_in items k p within ∙ ap (λ q. any_in (q ∷ drop (k + 1) items)) (sym is)
          ∙ list_any-append asked (tests_of p) (tests_of_each (predicates_of (drop (k + 1) items)))

      pub chain_passed : list_any asked (tests_of p) ≡ false → some ≡ list_any asked (tests_of_each (predicates_of (drop (k + 1) items)))
      chain_passed none = parts ∙ ap (λ b. b || any_in (drop (k + 1) items)) none

      pub chain_holds : list_any asked (tests_of p) ≡ true → true ≡ some
      chain_holds found = sym (parts ∙ ap (λ b. b || any_in (drop (k + 1) items)) found)

    pub chain_ends : length items ≤ k → false ≡ some
    chain_ends all = sym (kept ∙ at_drop_all any_in items k all)

  pub chain_not : (whole : PredicateTree (Test C)) (x : PredicateForm C) (inner : Box (Predicate C) Global) (p : PredicateTree (Test C))
      → predicate_tree x ≡ whole → x ≡ form.Not inner → p ≡ inner.value → list_any asked (tests_of p) ≡ list_any asked (tests_of whole)
  chain_not whole x inner p view e is = ap (λ q. list_any asked (tests_of q)) is ∙ ap (λ q. list_any asked (tests_of q)) (sym (ap predicate_tree e) ∙ view)

-- ---- its truth
or_false : (t : Truth) → or_truth t False ≡ t
or_false True = refl
or_false False = refl
or_false Unknown = refl

or_assoc : (a b c : Truth) → or_truth a (or_truth b c) ≡ or_truth (or_truth a b) c
or_assoc True b c = refl
or_assoc False b c = refl
or_assoc Unknown True c = refl
or_assoc Unknown False c = refl
or_assoc Unknown Unknown True = refl
or_assoc Unknown Unknown False = refl
or_assoc Unknown Unknown Unknown = refl

and_true : (t : Truth) → and_truth t True ≡ t
and_true True = refl
and_true False = refl
and_true Unknown = refl

and_assoc : (a b c : Truth) → and_truth a (and_truth b c) ≡ and_truth (and_truth a b) c
and_assoc True b c = refl
and_assoc False b c = refl
and_assoc Unknown True c = refl
and_assoc Unknown False c = refl
and_assoc Unknown Unknown True = refl
and_assoc Unknown Unknown False = refl
and_assoc Unknown Unknown Unknown = refl

-- truths that are joined one by one, from one that changes nothing
pub record Joins (join : Truth → Truth → Truth) (start : Truth) (values : List Total) (each : List (PredicateTree (Test ℕ)) → Truth) : Type 0 where
  pub changes_nothing : (t : Truth) → join t start ≡ t
  pub in_any_order : (a b c : Truth) → join a (join b c) ≡ join (join a b) c
  pub ends : each [] ≡ start
  pub begins : (p : PredicateTree (Test ℕ)) (ps : List (PredicateTree (Test ℕ))) → each (p ∷ ps) ≡ join (truth p values) (each ps)

abbrev pub any_of : List Total → List (PredicateTree (Test ℕ)) → Truth
any_of values ps = any_truth (value_at values) (predicates_of ps)

abbrev pub all_of : List Total → List (PredicateTree (Test ℕ)) → Truth
all_of values ps = all_truth (value_at values) (predicates_of ps)

pub or_joins : (values : List Total) → Joins or_truth False values (any_of values)
or_joins values = record { changes_nothing = or_false; in_any_order = or_assoc; ends = refl; begins = λ p ps. refl }

pub and_joins : (values : List Total) → Joins and_truth True values (all_of values)
and_joins values = record { changes_nothing = and_true; in_any_order = and_assoc; ends = refl; begins = λ p ps. refl }

module _ (values : List Total) (whole : PredicateTree (Test ℕ)) where
  pub or_starts : (x : PredicateForm ℕ) (inners : Vec (Predicate ℕ) Global) (items : List (PredicateTree (Test ℕ))) → predicate_tree x ≡ whole → items ≡ inners.items → x ≡ form.Or inners
      → truth whole values ≡ or_truth False (any_of values items)
  or_starts x inners items view all e = ap (λ p. truth p values) (sym view ∙ ap predicate_tree e) ∙ ap (any_of values) (sym all)

  pub and_starts : (x : PredicateForm ℕ) (inners : Vec (Predicate ℕ) Global) (items : List (PredicateTree (Test ℕ))) → predicate_tree x ≡ whole → items ≡ inners.items → x ≡ form.And inners
      → truth whole values ≡ and_truth True (all_of values items)
  and_starts x inners items view all e = ap (λ p. truth p values) (sym view ∙ ap predicate_tree e) ∙ ap (all_of values) (sym all)

module _ {join : Truth → Truth → Truth} {start : Truth} {values : List Total} {each : List (PredicateTree (Test ℕ)) → Truth} (joins : Joins join start values each)
    (whole : Truth) (items : List (PredicateTree (Test ℕ))) (k : ℕ) (found : Truth) (kept : whole ≡ join found (each (drop k items))) where
  pub truth_more : k < length items → (p : PredicateTree (Test ℕ)) → p ≡ get_or items k p → (one new : Truth) → one ≡ truth p values → new ≡ join found one
      → whole ≡ join new (each (drop (k + 1) items))
  truth_more within p is one new here both =
      let rest = drop (k + 1) items in
      let first : each (drop k items) ≡ join one (each rest) =
      at_drop_more each items k p within ∙ ap (λ q. each (q ∷ rest)) (sym is) ∙ joins.begins p rest ∙ ap (λ t. join t (each rest)) (sym here) in
      kept ∙ ap (join found) first ∙ joins.in_any_order found one (each rest) ∙ ap (λ t. join t (each rest)) (sym both)

  pub truth_ends : length items ≤ k → found ≡ whole
  truth_ends past = sym (kept ∙ ap (join found) (at_drop_all each items k past ∙ joins.ends) ∙ joins.changes_nothing found)
