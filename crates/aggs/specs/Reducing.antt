-- What is reduced by an operation that takes its arguments in any order and grouping.
use Rattle.std.specs.Prelude.{◌≡◌, List, [], ◌∷◌, ◌++◌, Option, Some, None, fold, refl}
use Rattle.std.specs.List.{reduce}
use Rattle.std.specs.List.Sorted.{IsPermutation}
use Rattle.std.proofs.Common.{ap, sym, ◌∙◌}
use Rattle.aggs.specs.Bags.{decided_by_bag}

-- of two that may be there, the one that is, or what the operation makes of both
abbrev pub merged : {A : Type 0} → (A → A → A) → Option A → Option A → Option A
merged op None b = b
merged op (Some a) None = Some a
merged op (Some a) (Some b) = Some (op a b)

pub merged_none : {A : Type 0} (op : A → A → A) (a : Option A) → merged op a None ≡ a
merged_none op None = refl
merged_none op (Some a) = refl

module _ {A : Type 0} (op : A → A → A)
    (assoc : (a b c : A) → op (op a b) c ≡ op a (op b c))
    (turns : (a b : A) → op a b ≡ op b a) where
  merged_assoc : (a b c : Option A) → merged op (merged op a b) c ≡ merged op a (merged op b c)
  merged_assoc None b c = refl
  merged_assoc (Some a) None c = refl
  merged_assoc (Some a) (Some b) None = refl
  merged_assoc (Some a) (Some b) (Some c) = ap Some (assoc a b c)

  merged_turns : (a b : Option A) → merged op a b ≡ merged op b a
  merged_turns None None = refl
  merged_turns None (Some b) = refl
  merged_turns (Some a) None = refl
  merged_turns (Some a) (Some b) = ap Some (turns a b)

  fold_behind : (xs : List A) (a b : A) → fold op (op a b) xs ≡ op a (fold op b xs)
  fold_behind [] a b = refl
  fold_behind (x ∷ xs) a b = ap (λ c. fold op c xs) (assoc a b x) ∙ fold_behind xs a (op b x)

  pub reduce_more : (x : A) (xs : List A) → reduce op (x ∷ xs) ≡ merged op (Some x) (reduce op xs)
  reduce_more x [] = refl
  reduce_more x (y ∷ ys) = ap Some (fold_behind ys x y)

  reduce_append : (xs ys : List A) → reduce op (xs ++ ys) ≡ merged op (reduce op xs) (reduce op ys)
  reduce_append [] ys = refl
  reduce_append (x ∷ xs) ys = reduce_more x (xs ++ ys)
      ∙ ap (merged op (Some x)) (reduce_append xs ys)
      ∙ sym (merged_assoc (Some x) (reduce op xs) (reduce op ys))
      ∙ ap (λ s. merged op s (reduce op ys)) (sym (reduce_more x xs))

  -- the same of what is picked out of a list, bit by bit
  module _ {X : Type 0} (pick : List X → List A) (pick_append : (xs ys : List X) → pick (xs ++ ys) ≡ pick xs ++ pick ys) where
    pub picked_joins : (xs ys : List X) →
        reduce op (pick (xs ++ ys)) ≡ merged op (reduce op (pick xs)) (reduce op (pick ys))
    picked_joins xs ys = ap (reduce op) (pick_append xs ys) ∙ reduce_append (pick xs) (pick ys)

    pub picked_any_order : (xs ys : List X) → IsPermutation xs ys → reduce op (pick xs) ≡ reduce op (pick ys)
    picked_any_order xs ys p = decided_by_bag (λ l. reduce op (pick l)) (merged op) picked_joins
        (λ us vs. picked_joins us vs ∙ merged_turns (reduce op (pick us)) (reduce op (pick vs)) ∙ sym (picked_joins vs us)) xs ys p
