-- Several predicates are no one alone.
use Rattle.std.proofs.Common.{◌≡◌, ◌≢◌, List, [], ◌∷◌, length, refl}
use Rattle.query.specs.Trees.{PredicateTree, Or, And, all_of, any_of, predicates_of}

pub any_of_several : {T : Type 0} → (ps : List (PredicateTree T)) → length ps ≢ 1 → any_of ps ≡ Or (predicates_of ps)
any_of_several [] h = refl
any_of_several (p ∷ []) h = absurd (h refl)
any_of_several (p ∷ q ∷ ps) h = refl

pub all_of_several : {T : Type 0} → (ps : List (PredicateTree T)) → length ps ≢ 1 → all_of ps ≡ And (predicates_of ps)
all_of_several [] h = refl
all_of_several (p ∷ []) h = absurd (h refl)
all_of_several (p ∷ q ∷ ps) h = refl
