-- A predicate in a chain of OR or of AND is smaller than the chain.
use Rattle.std.proofs.Common.{◌≡◌, ℕ, zero, suc, ◌<◌, List, [], ◌∷◌, length, ◌⊎◌, inl, inr, Vec, Global, ap, ◌∙◌, sym, arith}
use Rattle.std.proofs.Math.ListN.{get_or}
use Rattle.query.specs.PredicateViews.{predicate_tree}
use Rattle.query.specs.Trees.{PredicateTree, predicates_of, predicate_size, predicates_size}
use Rattle.query.specs.declared.predicate.Predicate.{Predicate}
use Rattle.query.specs.declared.predicate.PredicateForm.{PredicateForm}
use Rattle.query.specs.declared.predicate.PredicateForm.TheVariants as form
use Rattle.query.specs.declared.test.Test.{Test}

part_falls : {T : Type 0} → (ps : List (PredicateTree T)) (k : ℕ) (p : PredicateTree T) → k < length ps → predicate_size (get_or ps k p) < predicates_size (predicates_of ps)
part_falls [] k p within = absurd (omega (arith, within))
part_falls (q ∷ ps) zero p within = omega arith
part_falls (q ∷ ps) (suc k) p within = omega (arith, part_falls ps k p (omega (arith, within)))

module _ {C : Type 0} (whole : PredicateTree (Test C)) (x : PredicateForm C) (inners : Vec (Predicate C) Global) (items : List (PredicateTree (Test C))) (k : ℕ) (p : PredicateTree (Test C))
    (view : predicate_tree x ≡ whole) (all : items ≡ inners.items) (within : k < length items) (is : p ≡ get_or items k p) where
  falls_by : predicate_size whole ≡ predicates_size (predicates_of inners.items) → predicate_size p < predicate_size whole
  falls_by e = omega (arith, e, ap predicate_size is, ap (λ ps. predicates_size (predicates_of ps)) all, part_falls items k p within)

  pub falls_in_chain : (x ≡ form.Or inners) ⊎ (x ≡ form.And inners) → predicate_size p < predicate_size whole
  falls_in_chain (inl e) = falls_by (ap predicate_size (sym view ∙ ap predicate_tree e))
  falls_in_chain (inr e) = falls_by (ap predicate_size (sym view ∙ ap predicate_tree e))
