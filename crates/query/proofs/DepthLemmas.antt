-- Counting parentheses from token to token.
use Rattle.std.proofs.Common.{◌≡◌, ℕ, ◌+◌, ◌<◌, ◌≤◌, Bool, true, false, cond, List, [], ◌∷◌, length, take, get_or, refl, sym, ap, ap₂, ◌∙◌, arith}
use Rattle.std.proofs.lemmas.List.Folds.{list_any-append, list_any_at}
use Rattle.std.proofs.lemmas.List.FromFn.{get_or-map-range_with_len, length-map-range_with_len, map-range_with_len_more}
use Rattle.std.proofs.lemmas.List.Sums.{sum_by_more}
use Rattle.std.proofs.lemmas.Bool.Decides.{nat_tests}
use Rattle.std.specs.List.{count_by, list_any}
use Rattle.cells.specs.declared.token.Token.{Token}
use Rattle.query.specs.Depth.{beginnings, is_close, is_deep, is_open, is_too_deep}

module _ (ts : List Token) (i : ℕ) where
  -- it is shallow at one token more
  pub shallow_more : list_any is_deep (beginnings i ts) ≡ false → is_deep (take (i + 1) ts) ≡ false → list_any is_deep (beginnings (i + 1) ts) ≡ false
  shallow_more earlier here =
      ap (list_any is_deep) (map-range_with_len_more (λ k. take k ts) 1 i (i + 1) (omega arith)) ∙ list_any-append is_deep (beginnings i ts) (take (i + 1) ts ∷ []) ∙ rw (earlier, here) refl

  module _ (t : Token) (within : i < length ts) (is : t ≡ get_or ts i t) where
    -- a counter after the step
    pub counted : (p : Token → Bool) (n step : ℕ) → n ≡ count_by p (take i ts) → step ≡ cond (p t) 1 0 → n + step ≡ count_by p (take (i + 1) ts)
    counted p n step e f = ap₂ (λ a b. a + b) e (f ∙ ap (λ u. cond (p u) 1 0) is) ∙ sym (sum_by_more (λ u. cond (p u) 1 0) ts i t within)

    -- it is deep there, and so at some token
    pub deep_here : is_deep (take (i + 1) ts) ≡ true → is_too_deep ts ≡ true
    deep_here here =
        list_any_at is_deep (beginnings (length ts) ts) i [] (omega (arith, within, length-map-range_with_len (λ k. take k ts) 1 (length ts)))
        (ap is_deep (get_or-map-range_with_len (λ k. take k ts) 1 (length ts) i (i + 1) [] within (omega arith)) ∙ here)

-- the test of the counters is the one of the tokens
pub deep_at : (front : List Token) (opened closed : ℕ) → opened ≡ count_by is_open front → closed ≡ count_by is_close front → closed + 64 < opened → is_deep front ≡ true
deep_at front opened closed o c h = grind (arith, nat_tests)

pub shallow_at : (front : List Token) (opened closed : ℕ) → opened ≡ count_by is_open front → closed ≡ count_by is_close front → opened ≤ closed + 64 → is_deep front ≡ false
shallow_at front opened closed o c h = grind (arith, nat_tests)
