-- The trees of grouping elements and predicates, as clauses see them: without where they lie in memory.
use Rattle.std.specs.Prelude.{ℕ, ◌+◌, List, [], ◌∷◌}

mutual
  -- an element of GROUP BY; a unit is the list of its names
  pub data ElementTree : Type 0 where
    Empty : ElementTree
    OneUnit : List (List ℕ) → ElementTree
    Rollup : List (List (List ℕ)) → ElementTree
    Cube : List (List (List ℕ)) → ElementTree
    Sets : ElementTrees → ElementTree

  pub data ElementTrees : Type 0 where
    NoElements : ElementTrees
    MoreElements : ElementTree → ElementTrees → ElementTrees

abbrev pub elements_of : List ElementTree → ElementTrees
elements_of [] = NoElements
elements_of (e ∷ es) = MoreElements e (elements_of es)

-- how many elements stand in it, at any depth
abbrev mutual
  pub element_size : ElementTree → ℕ
  element_size Empty = 0
  element_size (OneUnit u) = 0
  element_size (Rollup us) = 0
  element_size (Cube us) = 0
  element_size (Sets es) = elements_size es

  pub elements_size : ElementTrees → ℕ
  elements_size NoElements = 0
  elements_size (MoreElements e es) = element_size e + 1 + elements_size es

mutual
  -- a predicate, over tests
  pub data PredicateTree (T : Type 0) : Type 0 where
    Or : PredicateTrees T → PredicateTree T
    And : PredicateTrees T → PredicateTree T
    Not : PredicateTree T → PredicateTree T
    Holds : T → PredicateTree T

  pub data PredicateTrees (T : Type 0) : Type 0 where
    NoPredicates : PredicateTrees T
    MorePredicates : PredicateTree T → PredicateTrees T → PredicateTrees T

abbrev pub predicates_of : {T : Type 0} → List (PredicateTree T) → PredicateTrees T
predicates_of [] = NoPredicates
predicates_of (p ∷ ps) = MorePredicates p (predicates_of ps)

-- the predicates with OR between them, and those with AND between them; one alone is itself
abbrev pub any_of : {T : Type 0} → List (PredicateTree T) → PredicateTree T
any_of (p ∷ []) = p
any_of ps = Or (predicates_of ps)

abbrev pub all_of : {T : Type 0} → List (PredicateTree T) → PredicateTree T
all_of (p ∷ []) = p
all_of ps = And (predicates_of ps)

-- how many predicates stand in it, at any depth
abbrev mutual
  pub predicate_size : {T : Type 0} → PredicateTree T → ℕ
  predicate_size (Or ps) = predicates_size ps
  predicate_size (And ps) = predicates_size ps
  predicate_size (Not p) = predicate_size p + 1
  predicate_size (Holds t) = 0

  pub predicates_size : {T : Type 0} → PredicateTrees T → ℕ
  predicates_size NoPredicates = 0
  predicates_size (MorePredicates p ps) = predicate_size p + 1 + predicates_size ps
