-- Predicates by indexes, in lists.
use Rattle.std.proofs.Common.{◌≡◌, ℕ, List, [], ◌∷◌, ◌++◌, Some, ap, ap₂, append_assoc, append-nil, refl, sym, ◌∙◌}
use Rattle.std.specs.List.{fold}
use Rattle.query.specs.Having.{count_before, having_of, numbered, with_leaf}
use Rattle.query.specs.Names.{leaves_of}
use Rattle.query.specs.Resolving.{resolved, resolved_each}
use Rattle.query.specs.Trees.{PredicateTree, MorePredicates, predicates_of}
use Rattle.query.specs.Values.{HavingTree}
use Rattle.query.specs.declared.item.Item.{Item}
use Rattle.query.specs.declared.test.Test.{Test}

module _ {C S : Type 0} (index : S → C → ℕ) (after : S → C → S) where
  abbrev pub resolved_list : S → List (PredicateTree (Test C)) → List (PredicateTree (Test ℕ))
  resolved_list s [] = []
  resolved_list s (p ∷ ps) = resolved index after s p ∷ resolved_list (fold after s (leaves_of p)) ps

  pub each_is_list : (s : S) (ps : List (PredicateTree (Test C))) → resolved_each index after s (predicates_of ps) ≡ predicates_of (resolved_list s ps)
  each_is_list s [] = refl
  each_is_list s (p ∷ ps) = ap (MorePredicates (resolved index after s p)) (each_is_list (fold after s (leaves_of p)) ps)

  pub begins : (s : S) (ps rest : List (PredicateTree (Test C))) (made : List (PredicateTree (Test ℕ))) → rest ≡ ps → made ≡ [] →
      resolved_each index after s (predicates_of ps) ≡ predicates_of (made ++ resolved_list s rest)
  begins s ps rest made all none = each_is_list s ps ∙ ap₂ (λ m r. predicates_of (m ++ resolved_list s r)) (sym none) (sym all)

-- ---- the items of HAVING, taken out one by one
all_taken : {C : Type 0} (before cs : List C) → fold with_leaf before cs ≡ before ++ cs
all_taken before [] = sym (append-nil before)
all_taken before (c ∷ cs) = all_taken (before ++ c ∷ []) cs ∙ append_assoc before (c ∷ []) cs

abbrev having_with : List (Item (List ℕ)) → PredicateTree (Test ℕ) → HavingTree
having_with items predicate = record { items = items; predicate = Some predicate }

pub having_made : (p : PredicateTree (Test (Item (List ℕ)))) (start items : List (Item (List ℕ))) (made : PredicateTree (Test ℕ)) → start ≡ [] →
    items ≡ fold with_leaf start (leaves_of p) → made ≡ resolved count_before with_leaf start p → having_with items made ≡ having_of p
having_made p start items made none taken is =
    let all : items ≡ leaves_of p = taken ∙ ap (λ s. fold with_leaf s (leaves_of p)) none ∙ all_taken [] (leaves_of p) in
    let same : made ≡ numbered p = is ∙ ap (λ s. resolved count_before with_leaf s p) none in
    ap₂ having_with all same
