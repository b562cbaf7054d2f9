-- The codes of trees, by which a proof tells values apart that hold them.
use Rattle.std.specs.Prelude.{◌≡◌, ℕ, List, [], ◌∷◌, ◌⊎◌, Option, Some, None, refl}
use Rattle.std.proofs.Common.{inl, inr, ap, ◌∙◌}
use Rattle.std.specs.Coded.{Coded, code_by, coded⊎, coded_list, coded_option, coded_ℕ}
use Rattle.query.specs.Trees.{ElementTree, Empty, OneUnit, Rollup, Cube, Sets, ElementTrees, NoElements, MoreElements, PredicateTree, Or, And, Not, Holds, PredicateTrees, NoPredicates, MorePredicates}

-- a tree of pairs, by which both kinds of trees are coded
pub data Tree (X : Type 0) : Type 0 where
  nil : Tree X
  leaf : X → Tree X
  pair : Tree X → Tree X → Tree X

module _ {X : Type 0} where
  -- a tree as steps that make it on a stack: None joins the two on top
  abbrev pub steps : Tree X → List (Option (Option X)) → List (Option (Option X))
  steps nil more = Some None ∷ more
  steps (leaf x) more = Some (Some x) ∷ more
  steps (pair a b) more = steps a (steps b (None ∷ more))

  abbrev pub run : List (Option (Option X)) → List (Tree X) → Tree X
  run [] [] = nil
  run [] (t ∷ ts) = t
  run (None ∷ more) [] = nil
  run (None ∷ more) (b ∷ []) = nil
  run (None ∷ more) (b ∷ a ∷ ts) = run more (pair a b ∷ ts)
  run (Some None ∷ more) ts = run more (nil ∷ ts)
  run (Some (Some x) ∷ more) ts = run more (leaf x ∷ ts)

  abbrev pub run-steps : (t : Tree X) (more : List (Option (Option X))) (ts : List (Tree X)) → run (steps t more) ts ≡ run more (t ∷ ts)
  run-steps nil more ts = refl
  run-steps (leaf x) more ts = refl
  run-steps (pair a b) more ts = run-steps a (steps b (None ∷ more)) ts ∙ run-steps b (None ∷ more) (a ∷ ts)

  abbrev pub coded_tree : Coded X → Coded (Tree X)
  coded_tree c = code_by (List (Option (Option X))) (coded_list (coded_option (coded_option c))) (λ t. steps t []) (λ l. run l []) (λ t. run-steps t [] [])

-- ---- elements
-- an element without elements of its own
abbrev pub Plain : Type 0
Plain = Option (List (List ℕ) ⊎ (List (List (List ℕ)) ⊎ List (List (List ℕ))))

abbrev mutual
  pub pairs_of_element : ElementTree → Tree Plain
  pairs_of_element Empty = leaf None
  pairs_of_element (OneUnit u) = leaf (Some (inl u))
  pairs_of_element (Rollup us) = leaf (Some (inr (inl us)))
  pairs_of_element (Cube us) = leaf (Some (inr (inr us)))
  pairs_of_element (Sets es) = pairs_of_elements es

  pub pairs_of_elements : ElementTrees → Tree Plain
  pairs_of_elements NoElements = nil
  pairs_of_elements (MoreElements e es) = pair (pairs_of_element e) (pairs_of_elements es)

abbrev pub plain_element : Plain → ElementTree
plain_element None = Empty
plain_element (Some (inl u)) = OneUnit u
plain_element (Some (inr (inl us))) = Rollup us
plain_element (Some (inr (inr us))) = Cube us

abbrev mutual
  pub element_of_pairs : Tree Plain → ElementTree
  element_of_pairs nil = Sets NoElements
  element_of_pairs (leaf x) = plain_element x
  element_of_pairs (pair a b) = Sets (MoreElements (element_of_pairs a) (elements_of_pairs b))

  pub elements_of_pairs : Tree Plain → ElementTrees
  elements_of_pairs nil = NoElements
  elements_of_pairs (leaf x) = NoElements
  elements_of_pairs (pair a b) = MoreElements (element_of_pairs a) (elements_of_pairs b)

sets_again : (es : ElementTrees) → elements_of_pairs (pairs_of_elements es) ≡ es → element_of_pairs (pairs_of_elements es) ≡ Sets es
sets_again NoElements h = refl
sets_again (MoreElements e es) h = ap Sets h

mutual
  pub element_again : (e : ElementTree) → element_of_pairs (pairs_of_element e) ≡ e
  element_again Empty = refl
  element_again (OneUnit u) = refl
  element_again (Rollup us) = refl
  element_again (Cube us) = refl
  element_again (Sets es) = sets_again es (elements_again es)

  pub elements_again : (es : ElementTrees) → elements_of_pairs (pairs_of_elements es) ≡ es
  elements_again NoElements = refl
  elements_again (MoreElements e es) = ap (λ x. MoreElements x (elements_of_pairs (pairs_of_elements es))) (element_again e) ∙ ap (MoreElements e) (elements_again es)

abbrev pub coded_element : Coded ElementTree
coded_element = code_by (Tree Plain) (coded_tree (coded_option (coded⊎ (coded_list (coded_list coded_ℕ)) (coded⊎ (coded_list (coded_list (coded_list coded_ℕ))) (coded_list (coded_list (coded_list coded_ℕ))))))) pairs_of_element element_of_pairs element_again

-- ---- predicates
module _ {T : Type 0} where
  abbrev mutual
    pub pairs_of_predicate : PredicateTree T → Tree (Option T)
    pairs_of_predicate (Or ps) = pair nil (pairs_of_predicates ps)
    pairs_of_predicate (And ps) = pair (leaf None) (pairs_of_predicates ps)
    pairs_of_predicate (Not p) = pair (pair nil nil) (pairs_of_predicate p)
    pairs_of_predicate (Holds t) = leaf (Some t)

    pub pairs_of_predicates : PredicateTrees T → Tree (Option T)
    pairs_of_predicates NoPredicates = nil
    pairs_of_predicates (MorePredicates p ps) = pair (pairs_of_predicate p) (pairs_of_predicates ps)

  abbrev mutual
    pub predicate_of_pairs : Tree (Option T) → PredicateTree T
    predicate_of_pairs nil = Or NoPredicates
    predicate_of_pairs (leaf None) = Or NoPredicates
    predicate_of_pairs (leaf (Some t)) = Holds t
    predicate_of_pairs (pair nil b) = Or (predicates_of_pairs b)
    predicate_of_pairs (pair (leaf x) b) = And (predicates_of_pairs b)
    predicate_of_pairs (pair (pair x y) b) = Not (predicate_of_pairs b)

    pub predicates_of_pairs : Tree (Option T) → PredicateTrees T
    predicates_of_pairs nil = NoPredicates
    predicates_of_pairs (leaf x) = NoPredicates
    predicates_of_pairs (pair a b) = MorePredicates (predicate_of_pairs a) (predicates_of_pairs b)

  mutual
    pub predicate_again : (p : PredicateTree T) → predicate_of_pairs (pairs_of_predicate p) ≡ p
    predicate_again (Or ps) = ap Or (predicates_again ps)
    predicate_again (And ps) = ap And (predicates_again ps)
    predicate_again (Not p) = ap Not (predicate_again p)
    predicate_again (Holds t) = refl

    pub predicates_again : (ps : PredicateTrees T) → predicates_of_pairs (pairs_of_predicates ps) ≡ ps
    predicates_again NoPredicates = refl
    predicates_again (MorePredicates p ps) = ap (λ x. MorePredicates x (predicates_of_pairs (pairs_of_predicates ps))) (predicate_again p) ∙ ap (MorePredicates p) (predicates_again ps)

  abbrev pub coded_predicate : Coded T → Coded (PredicateTree T)
  coded_predicate c = code_by (Tree (Option T)) (coded_tree (coded_option c)) pairs_of_predicate predicate_of_pairs predicate_again
