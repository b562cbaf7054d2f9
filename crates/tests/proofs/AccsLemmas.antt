-- The accumulator of some cells, and of one more behind them.
use Rattle.std.specs.Prelude.{◌+◌, ◌<◌, ◌≤◌}
use Rattle.std.proofs.Common.{◌≡◌, ℕ, List, [], ◌∷◌, ◌++◌, length, take, get_or, sym, ap, subst, ◌∙◌, arith}
use Rattle.std.proofs.lemmas.List.{take_all, take_more}
use Rattle.aggs.specs.Accs.{AccsFit, acc_joins, acc_kind, acc_of, acc_room, acc_together, kind_of}
use Rattle.aggs.specs.declared.acc.Acc.{Acc}
use Rattle.aggs.specs.declared.acc.Kind.{Kind}
use Rattle.cells.specs.declared.cell.Cell.{Cell}

module _ {H : Type 0} (k : Kind) (xs : List Cell) (a : Acc H) (is : a ≡ acc_of k xs) where
  pub can_step : (c : Cell) → length xs < 1000 → AccsFit a (acc_of (kind_of a) (c ∷ []))
  can_step c few = subst (λ (b : Acc H). AccsFit b (acc_of (kind_of b) (c ∷ []))) (sym is)
      (subst (λ l. AccsFit (acc_of {H = H} k xs) (acc_of l (c ∷ []))) (sym (acc_kind H k xs))
      (acc_room H k xs (c ∷ []) (omega arith)))

  pub has_stepped : (c : Cell) (new : Acc H) → new ≡ acc_together a (acc_of (kind_of a) (c ∷ [])) → new ≡ acc_of k (xs ++ c ∷ [])
  has_stepped c new step = step
      ∙ ap (λ (b : Acc H). acc_together b (acc_of (kind_of b) (c ∷ []))) is
      ∙ ap (λ l. acc_together (acc_of {H = H} k xs) (acc_of l (c ∷ []))) (acc_kind H k xs)
      ∙ sym (acc_joins k xs (c ∷ []))

module _ {H : Type 0} (k : Kind) (xs : List Cell) (i : ℕ) where
  -- the first so many of the cells, and the cell behind them
  pub one_further : (c : Cell) (new : Acc H) → i < length xs → c ≡ get_or xs i c → new ≡ acc_of k (take i xs ++ c ∷ []) → new ≡ acc_of k (take (i + 1) xs)
  one_further c new h at is = is ∙ ap (acc_of k) (ap (λ d. take i xs ++ d ∷ []) at ∙ sym (take_more xs i c h))

  pub all_taken : (a : Acc H) → length xs ≤ i → a ≡ acc_of k (take i xs) → a ≡ acc_of k xs
  all_taken a h is = is ∙ ap (acc_of k) (take_all i xs h)
