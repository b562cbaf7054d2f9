-- Lists of accumulators, one by one.
use Rattle.std.specs.Prelude.{◌≡◌, ℕ, ◌+◌, ◌<◌, ◌≤◌, ◌⊎◌, List, [], ◌∷◌, ◌++◌, length, set, take, drop, Option, Some, None, refl}
use Rattle.std.specs.List.{cons_option}
use Rattle.std.proofs.Common.{get_or, ap, sym, ◌∙◌, subst, arith, inl, inr}
use Rattle.std.proofs.Math.Seq.{take-nil}
use Rattle.std.proofs.lemmas.List.{length-set, length-take, take_more, append_assoc, append-nil, drop_more, drop-set-lt, take_more_set, drop_all, take_all}
use Rattle.std.proofs.lemmas.List.Elements.{filter_map-append}
use Rattle.aggs.specs.Accs.{AccsFit, acc_together}
use Rattle.aggs.specs.declared.acc.Acc.{Acc}
use Rattle.groups.specs.Accumulators.{aggregation_of, aggregations_of, AllFit, accs_together}
use Rattle.groups.specs.declared.aggregation.Aggregation.{Aggregation}
use Rattle.query.specs.declared.item.Item.{Item}

module _ {H : Type 0} where
  -- made are the accumulators of the lists whose rest are xs and ys
  pub record Joining (firsts seconds made xs ys : List (Acc H)) : Type 0 where
    pub same : made ++ accs_together xs ys ≡ accs_together firsts seconds
    pub fit : AllFit xs ys

  pub joining_first : (firsts seconds : List (Acc H)) → AllFit firsts seconds → Joining firsts seconds [] firsts seconds
  joining_first firsts seconds fit = record { same = refl; fit = fit }

  module _ {firsts seconds made xs ys : List (Acc H)} (now : Joining firsts seconds made xs ys) where
    module _ {x y : Acc H} {more later : List (Acc H)} (p : xs ≡ x ∷ more) (q : ys ≡ y ∷ later) where
      pub joining_may : AccsFit x y
      joining_may = let all : AllFit (x ∷ more) (y ∷ later) = rw (p, q) at now.fit in all.0

      pub joining_more : (v : Acc H) → v ≡ acc_together x y → Joining firsts seconds (made ++ v ∷ []) more later
      joining_more v e = let all : AllFit (x ∷ more) (y ∷ later) = rw (p, q) at now.fit in record {
        same = append_assoc made (v ∷ []) (accs_together more later) ∙ ap (λ w. made ++ w ∷ accs_together more later) e ∙ (rw (p, q) at now.same);
        fit = all.1;
      }

    no_more : (xs ys : List (Acc H)) → (xs ≡ []) ⊎ (ys ≡ []) → accs_together xs ys ≡ []
    no_more [] ys h = refl
    no_more (x ∷ xs) [] h = refl
    no_more (x ∷ xs) (y ∷ ys) (inl e) = cc
    no_more (x ∷ xs) (y ∷ ys) (inr e) = cc

    pub joining_all : (xs ≡ []) ⊎ (ys ≡ []) → made ≡ accs_together firsts seconds
    joining_all h = sym (append-nil made) ∙ ap (λ l. made ++ l) (sym (no_more xs ys h)) ∙ now.same

-- ---- accumulators with those of others, one by one
module _ {H : Type 0} where
  -- the first i of the accumulators have the others' rows, too
  pub record Adding (old others : List (Acc H)) (i : ℕ) (accs : List (Acc H)) : Type 0 where
    pub same : take i accs ++ accs_together (drop i accs) (drop i others) ≡ accs_together old others
    pub fit : AllFit (drop i accs) (drop i others)
    pub short : length accs ≤ length others

  cut_together : (old others : List (Acc H)) → accs_together (take (length others) old) others ≡ accs_together old others
  cut_together [] others = ap (λ l. accs_together l others) (take-nil (length others))
  cut_together (x ∷ old) [] = refl
  cut_together (x ∷ old) (y ∷ others) = ap (λ l. acc_together x y ∷ l) (cut_together old others)

  cut_fit : (old others : List (Acc H)) → AllFit old others → AllFit (take (length others) old) others
  cut_fit [] others fit = subst (λ l. AllFit l others) (sym (take-nil (length others))) tt
  cut_fit (x ∷ old) [] fit = tt
  cut_fit (x ∷ old) (y ∷ others) fit = (fit.0, cut_fit old others fit.1)

  pub adding_first : (old others accs : List (Acc H)) → accs ≡ take (length others) old → AllFit old others → Adding old others 0 accs
  adding_first old others accs e fit = record {
    same = ap (λ l. accs_together l others) e ∙ cut_together old others;
    fit = subst (λ l. AllFit l others) (sym e) (cut_fit old others fit);
    short = omega (arith, ap (λ l. length l) e, length-take (length others) old);
  }

-- ---- the aggregates of a select list, item by item
module _ (items : List (Item ℕ)) (i : ℕ) (d : Item ℕ) (h : i < length items) where
  one_item_more : (o : Option Aggregation) → aggregation_of (get_or items i d) ≡ o →
      aggregations_of (take (i + 1) items) ≡ aggregations_of (take i items) ++ cons_option o []
  one_item_more o e = ap aggregations_of (take_more items i d h) ∙ filter_map-append aggregation_of (take i items) (get_or items i d ∷ [])
      ∙ ap (λ p. aggregations_of (take i items) ++ cons_option p []) e

  pub one_aggregation_more : (a : Aggregation) (made : List Aggregation) → made ≡ aggregations_of (take i items) → aggregation_of (get_or items i d) ≡ Some a →
      made ++ a ∷ [] ≡ aggregations_of (take (i + 1) items)
  one_aggregation_more a made now e = ap (λ l. l ++ a ∷ []) now ∙ sym (one_item_more (Some a) e)

  pub no_aggregation_more : (made : List Aggregation) → made ≡ aggregations_of (take i items) → aggregation_of (get_or items i d) ≡ None →
      made ≡ aggregations_of (take (i + 1) items)
  no_aggregation_more made now e = now ∙ sym (one_item_more None e ∙ append-nil (aggregations_of (take i items)))
