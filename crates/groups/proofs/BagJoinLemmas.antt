-- Groups of a bag put into those of another, one after another.
use Rattle.std.specs.Prelude.{◌≡◌, ℕ, ◌+◌, ◌<◌, ◌≤◌, true, List, [], ◌∷◌, ◌++◌, length, refl}
use Rattle.std.specs.List.{AllByRecursion}
use Rattle.std.specs.List.Sorted.{IsPermutation}
use Rattle.std.proofs.Common.{get_or, ap, sym, ◌∙◌, subst, arith}
use Rattle.std.proofs.lemmas.List.{append_assoc, append-nil, get_or_read, length-append}
use Rattle.std.proofs.lemmas.List.Sorted.{IsPermutation-append_right, IsPermutation-trans, length_permutation}
use Rattle.aggs.specs.Room.{cell_limit}
use Rattle.cells.specs.SameKeys.{same_tuples}
use Rattle.cells.specs.TupleOrder.{tuple_eq}
use Rattle.cells.specs.Values.{RowValue}
use Rattle.cells.specs.declared.cell.Cell.{Cell}
use Rattle.groups.specs.Accumulators.{AllFit, accs_of}
use Rattle.groups.specs.Bags.{AreParts, CanJoin, Covers, Group, HasBoth, joined}
use Rattle.groups.specs.Coarsening.{TakesGroup}
use Rattle.groups.specs.declared.aggregation.Aggregation.{Aggregation}
use Rattle.groups.proofs.BagLemmas.{all_fit, covers_part, parts_have}

module _ {H : Type 0} (aggregations : List Aggregation) (columns : List ℕ) (rows : List RowValue) (parts : List (List RowValue)) where
  -- of the parts, the last ones are of the groups that are left, and the others went into the bag
  pub record HaveGone (bag left : List (Group H)) : Type 0 where
    pub gone : List RowValue
    pub lasts : List (List RowValue)
    pub covers : Covers aggregations columns (rows ++ gone) bag
    pub each : AreParts aggregations columns left lasts
    pub whole : joined parts ≡ gone ++ joined lasts

  gone_first : (first second : List (Group H)) → Covers aggregations columns rows first → AreParts aggregations columns second parts → HaveGone first second
  gone_first first second covers are = record {
    gone = [];
    lasts = parts;
    covers = subst (λ l. Covers aggregations columns l first) (sym (append-nil rows)) covers;
    each = are;
    whole = refl;
  }

  gone_next : (bag new left : List (Group H)) (g : Group H) → TakesGroup g.0 g.1 bag new → HaveGone bag (g ∷ left) → HaveGone new left
  gone_next bag new left g takes now = by now.lasts now.each now.whole
    where
      by : (lasts : List (List RowValue)) → AreParts aggregations columns (g ∷ left) lasts → joined parts ≡ now.gone ++ joined lasts → HaveGone new left
      by [] are whole = absurd are
      by (p ∷ lasts) are whole = record {
        gone = now.gone ++ p;
        lasts = lasts;
        covers = subst (λ l. Covers aggregations columns l new) (append_assoc rows now.gone p)
            (covers_part aggregations columns g.0 g.1 p are.0 (rows ++ now.gone) bag new now.covers takes);
        each = are.1;
        whole = whole ∙ sym (append_assoc now.gone p (joined lasts));
      }

  gone_fits : (bag left : List (Group H)) (g : Group H) → length rows + length (joined parts) ≤ cell_limit → HaveGone bag (g ∷ left) → AllByRecursion (λ x. AllFit x.1 g.1) bag
  gone_fits bag left g few now = by now.lasts now.each now.whole
    where
      by : (lasts : List (List RowValue)) → AreParts aggregations columns (g ∷ left) lasts → joined parts ≡ now.gone ++ joined lasts → AllByRecursion (λ x. AllFit x.1 g.1) bag
      by [] are whole = absurd are
      by (p ∷ lasts) are whole =
          parts_have aggregations columns (λ accs. AllFit accs g.1) (length p)
          (λ part short. subst (AllFit (accs_of aggregations part)) (sym (are.0).accs) (all_fit H aggregations part p short)) bag (now.covers).parts (now.covers).each
          (omega (
            arith,
            few,
            ap (λ l. length l) whole,
            length-append now.gone (p ++ joined lasts),
            length-append p (joined lasts),
            length-append rows now.gone,
            length_permutation (rows ++ now.gone) (joined (now.covers).parts) (now.covers).all,
          ))

  gone_last : (more : List RowValue) (bag left : List (Group H)) → left ≡ [] → IsPermutation more (joined parts) → HaveGone bag left → Covers aggregations columns (rows ++ more) bag
  gone_last more bag left none moved now = by now.lasts (subst (λ gs. AreParts aggregations columns gs now.lasts) none now.each) now.whole
    where
      by : (lasts : List (List RowValue)) → AreParts {H = H} aggregations columns [] lasts → joined parts ≡ now.gone ++ joined lasts → Covers aggregations columns (rows ++ more) bag
      by [] are whole =
          let same : joined parts ≡ now.gone = whole ∙ append-nil now.gone in
          record {
            parts = (now.covers).parts;
            each = (now.covers).each;
            all = IsPermutation-trans (rows ++ more) (rows ++ now.gone) (joined (now.covers).parts)
                (IsPermutation-append_right rows more now.gone (subst (IsPermutation more) same moved)) (now.covers).all;
          }
      by (p ∷ lasts) are whole = absurd are

-- whatever rows went into both: the groups that are left have the last parts of the second's
pub record GoInto {H : Type 0} (first second bag left : List (Group H)) : Type 0 where
  pub gone : (aggregations : List Aggregation) (columns : List ℕ) (rows : List RowValue) (parts : List (List RowValue)) → Covers aggregations columns rows first →
      AreParts aggregations columns second parts → HaveGone aggregations columns rows parts bag left

module _ {H : Type 0} (first second : List (Group H)) where
  pub go_first : (bag left : List (Group H)) → bag ≡ first → left ≡ second → GoInto first second bag left
  go_first bag left is are = rw (is, are) (record { gone = λ aggregations columns rows parts. gone_first aggregations columns rows parts first second })

  module _ (bag old left : List (Group H)) (g : Group H) (next : old ≡ g ∷ left) (now : GoInto first second bag old) where
    pub go_next : (new : List (Group H)) → TakesGroup g.0 g.1 bag new → GoInto first second new left
    go_next new takes = record {
      gone = λ aggregations columns rows parts covers are.
          gone_next aggregations columns rows parts bag new left g takes (subst (HaveGone aggregations columns rows parts bag) next (now.gone aggregations columns rows parts covers are));
    }

    pub go_fits : CanJoin first second → AllByRecursion (λ x. AllFit x.1 g.1) bag
    go_fits can =
        gone_fits can.aggregations can.columns can.rows (can.seconds).parts bag left g
        (omega (arith, can.few, length_permutation can.more (joined (can.seconds).parts) (can.seconds).all))
        (subst (HaveGone can.aggregations can.columns can.rows (can.seconds).parts bag) next (now.gone can.aggregations can.columns can.rows (can.seconds).parts can.firsts (can.seconds).each))

  pub go_last : (bag left : List (Group H)) → left ≡ [] → GoInto first second bag left → HasBoth first second bag
  go_last bag left none now = record {
    serves = λ aggregations columns rows more covers others.
        gone_last aggregations columns rows others.parts more bag left none others.all (now.gone aggregations columns rows others.parts covers others.each);
  }

-- a group whose tuple is equal to one has this very tuple
pub same_tuple_at : {H : Type 0} (gs held : List (Group H)) (i : ℕ) (x : Group H) (t : List Cell) → gs ≡ held → i < length gs → x ≡ get_or gs i x → tuple_eq x.0 t ≡ true →
    (get_or held i (t, [])).0 ≡ t
same_tuple_at gs held i x t is h at e =
    ap (λ (l : List (Group _)). (get_or l i (t, [])).0) (sym is) ∙ ap (λ (g : Group _). g.0) (sym (get_or_read gs i x h at (t, []))) ∙ same_tuples x.0 t e
