-- Rows in parts, each of which has a place: what a share of the places has, and what is made of the shares of all workers.
use Rattle.std.proofs.Common.{◌≡◌, ℕ, zero, suc, ◌+◌, ◌<◌, ◌≤◌, Bool, true, false, ltb, List, [], ◌∷◌, ◌++◌, flat_map, length, map, refl, sym, ap, ◌∙◌, subst, arith, append_assoc, IsPermutation}
use Rattle.std.specs.List.{AllByRecursion, AllZip, concat, range_with_len}
use Rattle.std.proofs.lemmas.Bool.{ltb-false, ltb-true}
use Rattle.std.proofs.lemmas.List.{append-nil, length-append}
use Rattle.std.proofs.lemmas.List.Concat.{flat_map-append}
use Rattle.std.proofs.lemmas.List.Sorted.{length_permutation}
use Rattle.aggs.specs.Room.{cell_limit}
use Rattle.cells.specs.Values.{RowValue}
use Rattle.crew.specs.Draws.{PlacesRise}
use Rattle.crew.specs.Gathering.{AreMadeOf, IsMadeOf, kept_at}
use Rattle.crew.specs.Shares.{AreShared}
use Rattle.crew.specs.Tasks.{IsShare}
use Rattle.groups.specs.Folds.{Folds, MayEnd, MayJoin}
use Rattle.groups.specs.Groups.{keeps, kept}
use Rattle.groups.specs.Laws.{kept_join, kept_short}
use Rattle.groups.specs.declared.folding.Folding.{Folding}
use Rattle.query.specs.Plans.{PlanTree}
use Rattle.crew.proofs.PlacesLemmas.{all_of, all_weaker, permutation_flat_map}

module _ (part : ℕ → List RowValue) where
  -- ---- a share

  -- with one place more there are the rows of one part more
  pub one_more : (places : List ℕ) (place : ℕ) → flat_map part (places ++ place ∷ []) ≡ flat_map part places ++ part place
  one_more places place = flat_map-append part places (place ∷ []) ∙ ap (λ rest. flat_map part places ++ rest) (append-nil (part place))

  -- the first place of a range is one of the places, or is left
  first_short : (from count place : ℕ) (places : List ℕ) → from ≤ place →
      (place ≡ from → length (flat_map part places) ≤ length (flat_map part (range_with_len (from + 1) count))) →
      (from < place → length (flat_map part (place ∷ places)) ≤ length (flat_map part (range_with_len (from + 1) count))) →
      length (flat_map part (place ∷ places)) ≤ length (flat_map part (range_with_len from (suc count)))
  first_short from count place places low here later = by (ltb from place) refl
    where
      whole : length (flat_map part (range_with_len from (suc count))) ≡ length (part from) + length (flat_map part (range_with_len (from + 1) count))
      whole = length-append (part from) (flat_map part (range_with_len (from + 1) count))

      by : (b : Bool) → ltb from place ≡ b → length (flat_map part (place ∷ places)) ≤ length (flat_map part (range_with_len from (suc count)))
      by true is = omega (arith, whole, later (ltb-true from place is))
      by false is =
          let high : place ≤ from = ltb-false from place is in
          let same : place ≡ from = omega arith in
          omega (arith, whole, here same, length-append (part place) (flat_map part places), ap (λ n. length (part n)) same)

  -- rising places of a range have no more rows than the range
  range_short : (count from : ℕ) (places : List ℕ) → PlacesRise places → AllByRecursion (λ place. from ≤ place) places →
      AllByRecursion (λ place. place < from + count) places → length (flat_map part places) ≤ length (flat_map part (range_with_len from count))
  range_short zero from [] rising low high = omega arith
  range_short zero from (place ∷ places) rising low high =
      let at_least : from ≤ place = low.0 in
      let below : place < from + 0 = high.0 in
      absurd (omega arith)
  range_short (suc count) from [] rising low high = omega arith
  range_short (suc count) from (place ∷ places) rising low high =
      let at_least : from ≤ place = low.0 in
      let below : AllByRecursion (λ n. n < from + 1 + count) (place ∷ places) =
      all_weaker (λ n. n < from + suc count) (λ n. n < from + 1 + count) (λ n h. omega arith) (place ∷ places) high in
      let above : AllByRecursion (λ n. from + 1 ≤ n) places = all_weaker (λ n. place < n) (λ n. from + 1 ≤ n) (λ n h. omega arith) places rising.0 in
      first_short from count place places at_least
      (λ same. range_short count (from + 1) places rising.1 above below.1)
      (λ later. range_short count (from + 1) (place ∷ places) rising (omega arith, above) below)

  -- the rows of some places and of one more are no more than all
  pub share_short : (count : ℕ) (places : List ℕ) (place : ℕ) → IsShare count (places ++ place ∷ []) →
      length (flat_map part places) + length (part place) ≤ length (flat_map part (range_with_len 0 count))
  share_short count places place share =
      let short = range_short count 0 (places ++ place ∷ []) share.rising (all_of (λ n. 0 ≤ n) (λ n. omega arith) (places ++ place ∷ []))
      (all_weaker (λ n. n < count) (λ n. n < 0 + count) (λ n h. omega arith) (places ++ place ∷ []) share.below) in
      omega (arith, short, ap (λ l. length l) (one_more places place), length-append (flat_map part places) (part place))

  -- ---- all shares

  parts_each : (shares : List (List ℕ)) → flat_map (λ rows. rows) (map (flat_map part) shares) ≡ flat_map part (concat shares)
  parts_each [] = refl
  parts_each (places ∷ shares) = ap (λ rest. flat_map part places ++ rest) (parts_each shares) ∙ sym (flat_map-append part places (concat shares))

  each_part : {Made : Type 0} (makes : List RowValue → Made → Type 0) (shares : List (List ℕ)) (made : List Made) →
      AllZip (λ places one. makes (flat_map part places) one) shares made → AllZip makes (map (flat_map part) shares) made
  each_part makes [] [] each = tt
  each_part makes [] (one ∷ made) each = absurd each
  each_part makes (places ∷ shares) [] each = absurd each
  each_part makes (places ∷ shares) (one ∷ made) each = (each.0, each_part makes shares made each.1)

  -- what is made of the places of shares is made of the rows there
  pub made_of_shares : {Made : Type 0} (makes : List RowValue → Made → Type 0) (all : List RowValue) (count : ℕ) (made : List Made) →
      flat_map part (range_with_len 0 count) ≡ all → AreShared (λ places one. makes (flat_map part places) one) count made → AreMadeOf makes all made
  made_of_shares makes all count made whole_is shared = record {
    parts = map (flat_map part) shared.shares;
    whole = subst (λ rows. IsPermutation rows all) (sym (parts_each shared.shares))
        (subst (IsPermutation (flat_map part (concat shared.shares))) whole_is (permutation_flat_map part (concat shared.shares) (range_with_len 0 count) shared.whole));
    each = each_part makes shared.shares made shared.given_for;
  }

-- ---- those rows for which WHERE is true

module _ (plan : PlanTree) (part : ℕ → List RowValue) where
  kept_each : (places : List ℕ) → kept_at plan part places ≡ kept plan.condition (flat_map part places)
  kept_each [] = refl
  kept_each (place ∷ places) =
      ap (λ rest. kept plan.condition (part place) ++ rest) (kept_each places) ∙ sym (kept_join plan.condition (part place) (flat_map part places))

  -- those of some places, and all rows of one more, are few enough
  pub kept_few : (count : ℕ) (all : List RowValue) → flat_map part (range_with_len 0 count) ≡ all → length all ≤ cell_limit →
      (places : List ℕ) (place : ℕ) → IsShare count (places ++ place ∷ []) → length (kept_at plan part places) + length (part place) ≤ cell_limit
  kept_few count all whole_is few places place share = omega (
    arith,
    few,
    ap (λ l. length l) whole_is,
    share_short part count places place share,
    ap (λ l. length l) (kept_each places),
    kept_short (keeps plan.condition) (flat_map part places),
  )

  pub kept_more : (places : List ℕ) (place : ℕ) → kept_at plan part (places ++ place ∷ []) ≡ kept_at plan part places ++ kept plan.condition (part place)
  kept_more = one_more (λ place. kept plan.condition (part place))

  -- all that workers folded is of those of all rows
  pub folded : {H : Type 0} (count : ℕ) (all : List RowValue) (foldings : List (Folding H)) → flat_map part (range_with_len 0 count) ≡ all →
      AreShared (λ places. Folds plan (kept_at plan part places)) count foldings → AreMadeOf (Folds plan) (kept plan.condition all) foldings
  folded count all foldings whole_is shared =
      made_of_shares (λ place. kept plan.condition (part place)) (Folds plan) (kept plan.condition all) count foldings
      (kept_each (range_with_len 0 count) ∙ ap (kept plan.condition) whole_is) shared

-- ---- what was made, put together one after another

module _ {Made : Type 0} (makes : List RowValue → Made → Type 0) (all : List RowValue) where
  -- what was made of no rows may stand in front
  pub with_none : (none : Made) (made : List Made) → makes [] none → AreMadeOf makes all made → AreMadeOf makes all (none ∷ made)
  with_none none made of_none are = record { parts = [] ∷ are.parts; whole = are.whole; each = (of_none, are.each) }

  -- the first two, and those behind them
  pub record FirstTwo (first second : Made) (left : List Made) : Type 0 where
    pub rows : List RowValue
    pub more : List RowValue
    pub parts : List (List RowValue)
    pub whole : IsPermutation ((rows ++ more) ++ flat_map (λ part. part) parts) all
    pub firsts : makes rows first
    pub seconds : makes more second
    pub each : AllZip makes parts left

  pub first_two : (first second : Made) (left : List Made) → AreMadeOf makes all (first ∷ second ∷ left) → FirstTwo first second left
  first_two first second left are = by are.parts are.whole are.each
    where
      by : (parts : List (List RowValue)) → IsPermutation (flat_map (λ part. part) parts) all → AllZip makes parts (first ∷ second ∷ left) → FirstTwo first second left
      by [] whole each = absurd each
      by (rows ∷ []) whole each = absurd each.1
      by (rows ∷ more ∷ parts) whole each = record {
        rows = rows;
        more = more;
        parts = parts;
        whole = subst (λ l. IsPermutation l all) (sym (append_assoc rows more (flat_map (λ part. part) parts))) whole;
        firsts = each.0;
        seconds = each.1.0;
        each = each.1.1;
      }

  -- the first two are put together
  pub two_joined : (first second both : Made) (left : List Made) → AreMadeOf makes all (first ∷ second ∷ left) →
      ((xs ys : List RowValue) → makes xs first → makes ys second → makes (xs ++ ys) both) → AreMadeOf makes all (both ∷ left)
  two_joined first second both left are joins =
      let two = first_two first second left are in
      record { parts = (two.rows ++ two.more) ∷ two.parts; whole = two.whole; each = (joins two.rows two.more two.firsts two.seconds, two.each) }

  -- the last one is of all rows
  pub last_one : (last : Made) → AreMadeOf makes all (last ∷ []) → IsMadeOf makes all last
  last_one last are = by are.parts are.whole are.each
    where
      by : (parts : List (List RowValue)) → IsPermutation (flat_map (λ part. part) parts) all → AllZip makes parts (last ∷ []) → IsMadeOf makes all last
      by [] whole each = absurd each
      by (rows ∷ []) whole each = record { rows = rows; order = subst (λ l. IsPermutation l all) (append-nil rows) whole; held = each.0 }
      by (rows ∷ more ∷ parts) whole each = absurd each.1

  -- where nothing was made, there are no rows
  pub none_made : AreMadeOf makes all [] → IsPermutation [] all
  none_made are = by are.parts are.whole are.each
    where
      by : (parts : List (List RowValue)) → IsPermutation (flat_map (λ part. part) parts) all → AllZip makes parts [] → IsPermutation [] all
      by [] whole each = whole
      by (rows ∷ parts) whole each = absurd each

-- foldings may be joined, and in the end become the partial result
module _ {H : Type 0} (plan : PlanTree) (all : List RowValue) (few : length all ≤ cell_limit) where
  pub may_join : (first second : Folding H) (left : List (Folding H)) → AreMadeOf (Folds plan) all (first ∷ second ∷ left) → MayJoin first second
  may_join first second left are =
      let two = first_two (Folds plan) all first second left are in
      record {
        plan = plan;
        rows = two.rows;
        more = two.more;
        firsts = two.firsts;
        seconds = two.seconds;
        few = omega (
          arith,
          few,
          length-append two.rows two.more,
          length-append (two.rows ++ two.more) (flat_map (λ part. part) two.parts),
          length_permutation _ _ two.whole,
        );
      }

  pub may_end : (last : Folding H) → AreMadeOf (Folds plan) all (last ∷ []) → MayEnd last
  may_end last are =
      let it = last_one (Folds plan) all last are in
      record { plan = plan; taken = it.rows; folds = it.held; few = omega (arith, few, length_permutation it.rows all it.order) }
