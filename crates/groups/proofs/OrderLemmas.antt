-- Tuples in the digit order of their hashes: which are equal there are equal as tuples, whatever the hash.
use Rattle.std.specs.Prelude.{◌≡◌, ◌≢◌, ℕ, false, List, [], ◌∷◌, refl}
use Rattle.std.specs.List.{AllByRecursion, IsDistinct}
use Rattle.std.specs.Map.{lookup}
use Rattle.std.specs.Ordering.{is_eq, ordering_then}
use Rattle.std.specs.declared.cmp.Ordering.{Ordering}
use Rattle.std.specs.declared.cmp.Ordering.TheVariants.{Less, Equal, Greater}
use Rattle.std.proofs.Common.{ap, sym, ◌∙◌}
use Rattle.std.proofs.lemmas.Cmp.{nat_list_cmp_total, tied_itself}
use Rattle.cells.specs.SameKeys.{exact_tuples}
use Rattle.cells.specs.TupleOrder.{tuple_cmp, tuple_cmp-total, tuple_eq}
use Rattle.cells.specs.declared.cell.Cell.{Cell}
use Rattle.trie.specs.Digits.{digit_order, digits}
use Rattle.trie.specs.Entries.{IsRising, value_at}

module _ (hash : List Cell → ℕ) where
  pub order_agrees : (a b : List Cell) → is_eq (digit_order hash tuple_cmp a b) ≡ tuple_eq a b
  order_agrees a b = by_cmp (tuple_cmp a b) refl
    where
      by_digits : (o c : Ordering) → (c ≢ Equal) → is_eq (ordering_then o c) ≡ false
      by_digits Less c apart = refl
      by_digits Equal Less apart = refl
      by_digits Equal Equal apart = absurd (apart refl)
      by_digits Equal Greater apart = refl
      by_digits Greater c apart = refl

      by_cmp : (c : Ordering) → tuple_cmp a b ≡ c → is_eq (digit_order hash tuple_cmp a b) ≡ is_eq c
      by_cmp Less is =
          by_digits _ (tuple_cmp a b) (λ (e : tuple_cmp a b ≡ Equal). let never : Less ≡ Equal = sym is ∙ e in cc)
      by_cmp Equal is = rw (exact_tuples a b is, tied_itself nat_list_cmp_total (digits (hash b)), tied_itself tuple_cmp-total b) refl
      by_cmp Greater is =
          by_digits _ (tuple_cmp a b) (λ (e : tuple_cmp a b ≡ Equal). let never : Greater ≡ Equal = sym is ∙ e in cc)

  -- the value of a tuple is the one that the order of tuples finds
  pub value_by_tuple : {V : Type 0} (es : List (List Cell × V)) (t : List Cell) →
      value_at (digit_order hash tuple_cmp) es t ≡ lookup (tuple_eq t) es
  value_by_tuple [] t = refl
  value_by_tuple (e ∷ es) t = rw (order_agrees t e.0, value_by_tuple es t) refl

  apart_from : (t : List Cell) (ts : List (List Cell)) → AllByRecursion (λ u. digit_order hash tuple_cmp t u ≡ Less) ts →
      AllByRecursion (λ u. tuple_eq t u ≡ false) ts
  apart_from t [] all = tt
  apart_from t (u ∷ ts) all = (sym (order_agrees t u) ∙ ap is_eq all.0, apart_from t ts all.1)

  -- tuples that rise differ
  pub rising_differ : (ts : List (List Cell)) → IsRising (digit_order hash tuple_cmp) ts → IsDistinct tuple_eq ts
  unfolding IsDistinct
  rising_differ [] rising = tt
  rising_differ (t ∷ ts) rising = (apart_from t ts rising.0, rising_differ ts rising.1)
