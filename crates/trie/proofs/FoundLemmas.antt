-- Entries that are found by their keys.
use Rattle.std.proofs.Common.{◌≡◌, ℕ, Bool, true, false, cond, Option, Some, None, List, [], ◌∷◌, ◌++◌, refl, sym, ap, ◌∙◌}
use Rattle.std.specs.Cmp.{IsTotalOrder}
use Rattle.std.specs.List.{AllByRecursion, find}
use Rattle.std.specs.Map.{keys_of}
use Rattle.std.specs.Option.{option_map}
use Rattle.std.specs.Ordering.{is_eq}
use Rattle.std.specs.declared.cmp.Ordering.{Ordering}
use Rattle.std.specs.declared.cmp.Ordering.TheVariants.{Less, Equal}
use Rattle.std.proofs.lemmas.Option.{cond_some}
use Rattle.trie.specs.Digits.{digit_order}
use Rattle.trie.specs.Entries.{entry_at, value_at}
use Rattle.trie.specs.Merging.{blend_entries, blended}
use Rattle.trie.proofs.MapsLemmas.{HaveHashes, value-entry}
use Rattle.trie.proofs.OrderLemmas.{order_agrees}

module _ {X : Type 0} (test : X → Bool) where
  pub find-behind : (xs ys : List X) → AllByRecursion (λ x. test x ≡ false) xs → find test (xs ++ ys) ≡ find test ys
  find-behind [] ys h = refl
  find-behind (x ∷ xs) ys h = rw h.0 (find-behind xs ys h.1)

  pub find-none : (ys : List X) → AllByRecursion (λ x. test x ≡ false) ys → find test ys ≡ None
  find-none [] h = refl
  find-none (y ∷ ys) h = rw h.0 (find-none ys h.1)

  pub find-ahead : (xs ys : List X) → AllByRecursion (λ x. test x ≡ false) ys → find test (xs ++ ys) ≡ find test xs
  find-ahead [] ys h = find-none ys h
  find-ahead (x ∷ xs) ys h = ap (λ r. cond (test x) (Some x) r) (find-ahead xs ys h)

  found-step : (b : Bool) (x y : X) (r : Option X) → test x ≡ b → cond b (Some x) r ≡ Some y → (r ≡ Some y → test y ≡ true) →
      test y ≡ true
  found-step true x y r is found rest = ap test (sym (cond_some true x y found).1) ∙ is
  found-step false x y r is found rest = rest found

  -- what is found passes
  pub found-passes : (xs : List X) (y : X) → find test xs ≡ Some y → test y ≡ true
  found-passes [] y found = absurd (cc)
  found-passes (x ∷ xs) y found = found-step (test x) x y (find test xs) refl found (λ f. found-passes xs y f)

pub find-same : {X : Type 0} (s t : X → Bool) → ((x : X) → s x ≡ t x) → (xs : List X) → find s xs ≡ find t xs
find-same s t same [] = refl
find-same s t same (x ∷ xs) = rw (same x, find-same s t same xs) refl

module _ {K V : Type 0} where
  module _ (R : K → K → Ordering) where
    pub value_of_entry : (es : List (K × V)) (q : K) (o : Option (K × V)) → o ≡ entry_at R es q → option_map (λ e. e.1) o ≡ value_at R es q
    value_of_entry es q o is = ap (λ o. option_map (λ e. e.1) o) is ∙ sym (value-entry R es q)

    pub value-alike : (es fs : List (K × V)) (q : K) → entry_at R es q ≡ entry_at R fs q → value_at R es q ≡ value_at R fs q
    value-alike es fs q same = value-entry R es q ∙ value_of_entry fs q (entry_at R es q) same

    -- equal keys find the same entry
    pub found_alike : IsTotalOrder R → (q k : K) → R q k ≡ Equal → (es : List (K × V)) → entry_at R es q ≡ entry_at R es k
    found_alike o q k same es = find-same (λ e. is_eq (R q e.0)) (λ e. is_eq (R k e.0)) (λ e. ap is_eq (o.congr q k e.0 same)) es

    -- a key below all others has no entry
    pub none_below : (es : List (K × V)) (q : K) → AllByRecursion (λ k. R q k ≡ Less) (keys_of es) → entry_at R es q ≡ None
    none_below [] q below = refl
    none_below (e ∷ es) q below = rw below.0 (none_below es q below.1)

-- the value of a key in two maps together, where its entry is known
pub value_blended : {K V : Type 0} (f : V → V → V) (o p : Option (K × V)) →
    option_map (λ e. e.1) (blended (blend_entries f) o p) ≡ blended f (option_map (λ e. e.1) o) (option_map (λ e. e.1) p)
value_blended f None p = refl
value_blended f (Some e) None = refl
value_blended f (Some e) (Some d) = refl

module _ {K V : Type 0} (hash : K → ℕ) (cmp : K → K → Ordering) (h : HaveHashes hash cmp) where
  pub entry_at-order : (key : K) (es : List (K × V)) → entry_at (digit_order hash cmp) es key ≡ entry_at cmp es key
  entry_at-order key es =
      find-same (λ e. is_eq (digit_order hash cmp key e.0)) (λ e. is_eq (cmp key e.0)) (λ e. order_agrees hash cmp h.same_hash key e.0) es
