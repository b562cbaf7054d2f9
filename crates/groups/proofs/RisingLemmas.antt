-- Groups in the order of their tuples: where no two have one tuple, the report's rows are made of them one by one.
use Rattle.std.specs.Prelude.{◌≡◌, ℕ, suc, ◌+◌, ◌<◌, ◌≤◌, Bool, true, false, List, [], ◌∷◌, length, nat_lt, Option, Some, None, if◌then◌else◌, refl}
use Rattle.std.specs.Borrow.{Bor}
use Rattle.std.specs.List.{AllByRecursion, IsDistinct}
use Rattle.std.specs.List.Sorted.{IsPermutation, IsSorted}
use Rattle.std.specs.Map.{keys_of, lookup}
use Rattle.std.specs.declared.cmp.Ordering.TheVariants.{Less}
use Rattle.std.proofs.Common.{get_or, ap, sym, ◌∙◌, subst, arith}
use Rattle.std.proofs.lemmas.Bool.{ltb-false, ltb-true}
use Rattle.std.proofs.lemmas.Cmp.{nat_list_cmp_total, tied_itself}
use Rattle.std.proofs.lemmas.List.{get_or-map, length-map}
use Rattle.std.proofs.lemmas.List.Sorted.{Contains-permutation, IsPermutation-map, IsPermutation-refl, IsPermutation-sym}
use Rattle.std.proofs.lemmas.Map.Keys.{IsDistinct-IsPermutation}
use Rattle.std.proofs.lemmas.Map.Views.{Contains-from_lookup, lookup-from_Contains}
use Rattle.aggs.specs.declared.acc.Acc.{Acc}
use Rattle.cells.specs.SameKeys.{same_tuples}
use Rattle.cells.specs.TupleOrder.{tuple_cmp, tuple_cmp-total, tuple_eq, tuple_eq-equiv}
use Rattle.cells.specs.Values.{RowValue}
use Rattle.cells.specs.declared.cell.Cell.{Cell}
use Rattle.groups.specs.Accumulators.{aggregations_of, both, group}
use Rattle.groups.specs.Bags.{Covers, Group}
use Rattle.groups.specs.Finishing.{rows_by}
use Rattle.groups.specs.Groups.{set_rows}
use Rattle.groups.specs.Laying.{met_from}
use Rattle.groups.specs.declared.aggregation.Aggregation.{Aggregation}
use Rattle.groups.proofs.BagLemmas.{met_covers}
use Rattle.groups.proofs.FinishLemmas.{rows_are}
use Rattle.groups.proofs.LayingLemmas.{both_none}
use Rattle.groups.proofs.OrderLemmas.{rising_differ, value_by_tuple}
use Rattle.groups.proofs.SetTuplesLemmas.{keys_lent}
use Rattle.groups.proofs.TuplesLemmas.{all_through}
use Rattle.query.specs.Plans.{PlanTree}
use Rattle.trie.specs.Digits.{digit_order, digits}
use Rattle.trie.specs.Entries.{IsRising}
use Rattle.trie.specs.Holding.{lent}

-- ---- tuples that rise, one after another
-- each of the first tuples is less than the one after it
pub record RiseTo (at : ℕ) (ts : List (List Cell)) : Type 0 where
  pub each : (i : ℕ) (d : List Cell) → i + 1 < at → tuple_cmp (get_or ts i d) (get_or ts (i + 1) d) ≡ Less

pub rise_more : (before at : ℕ) (ts : List (List Cell)) → at ≡ before + 1 → ((d : List Cell) → tuple_cmp (get_or ts before d) (get_or ts at d) ≡ Less) → RiseTo at ts → RiseTo (at + 1) ts
rise_more before at ts next less now = record { each = λ i d h. by i d h (nat_lt (i + 1) at) refl }
  where
    by : (i : ℕ) (d : List Cell) → i + 1 < at + 1 → (b : Bool) → nat_lt (i + 1) at ≡ b → tuple_cmp (get_or ts i d) (get_or ts (i + 1) d) ≡ Less
    by i d h true f = now.each i d (ltb-true _ _ f)
    by i d h false f =
        let last : at ≤ i + 1 = ltb-false _ _ f in
        let same : before ≡ i = omega (arith, h, last, next) in
        let after : at ≡ i + 1 = omega (arith, h, last) in
        subst (λ n. tuple_cmp (get_or ts i d) (get_or ts n d) ≡ Less) after (subst (λ n. tuple_cmp (get_or ts n d) (get_or ts at d) ≡ Less) same (less d))

above : (t u : List Cell) (ts : List (List Cell)) → tuple_cmp t u ≡ Less → AllByRecursion (λ v. tuple_cmp u v ≡ Less) ts → AllByRecursion (λ v. tuple_cmp t v ≡ Less) ts
above t u ts less all = all_through (λ v. tuple_cmp u v ≡ Less) (λ v. tuple_cmp t v ≡ Less) (λ v more. tuple_cmp-total.trans t u v less more) ts all

rising_from : (ts : List (List Cell)) → ((i : ℕ) (d : List Cell) → i + 1 < length ts → tuple_cmp (get_or ts i d) (get_or ts (i + 1) d) ≡ Less) → IsRising tuple_cmp ts
rising_from [] each = tt
rising_from (t ∷ []) each = (tt, tt)
rising_from (t ∷ u ∷ ts) each =
    let rest = rising_from (u ∷ ts)
    (λ i d h. let e : suc i + 1 ≡ suc (i + 1) = omega arith in
    subst (λ n. tuple_cmp (get_or (t ∷ u ∷ ts) (suc i) d) (get_or (t ∷ u ∷ ts) n d) ≡ Less) e (each (suc i) d (omega (arith, h)))) in
    let first : tuple_cmp t u ≡ Less = each 0 t (omega arith) in
    ((first, above t u ts first rest.0), rest)

pub rise_all : (at : ℕ) (ts : List (List Cell)) → length ts ≤ at → RiseTo at ts → IsRising tuple_cmp ts
rise_all at ts past now = rising_from ts (λ i d h. now.each i d (omega (arith, h, past)))

module _ {H : Type 0} where
  -- the tuple of a group that is lent
  pub key_at : (gs : List (Bor (List Cell) × Bor (List (Acc H)))) (k : ℕ) (x : Bor (List Cell) × Bor (List (Acc H))) → k < length gs → (d : List Cell) →
      get_or (keys_of (lent gs)) k d ≡ (get_or gs k x).0.now
  key_at gs k x h d = ap (λ ts. get_or ts k d) (keys_lent gs) ∙ get_or-map (λ e. e.0.now) gs k x d h

  pub keys_count : (gs : List (Bor (List Cell) × Bor (List (Acc H)))) → length (keys_of (lent gs)) ≡ length gs
  keys_count gs = ap (λ ts. length ts) (keys_lent gs) ∙ length-map gs (λ e. e.0.now)

-- ---- the order of tuples is that of the trie's, where all hashes are one
one_hash : List Cell → ℕ
one_hash = λ t. 0

plain_order : (t u : List Cell) → digit_order one_hash tuple_cmp t u ≡ tuple_cmp t u
unfolding one_hash
plain_order t u = rw (tied_itself nat_list_cmp_total (digits 0)) refl

plain_rising : (ts : List (List Cell)) → IsRising tuple_cmp ts → IsRising (digit_order one_hash tuple_cmp) ts
plain_rising [] rising = tt
plain_rising (t ∷ ts) rising = (
  all_through (λ u. tuple_cmp t u ≡ Less) (λ u. digit_order one_hash tuple_cmp t u ≡ Less) (λ u less. plain_order t u ∙ less) ts rising.0,
  plain_rising ts rising.1,
)

-- ---- groups with different tuples
module _ {H : Type 0} where
  -- what a tuple is given where no group has it
  none_given : (t : List Cell) (o : Option (List (Acc H))) (groups : List (Group H)) → AllByRecursion (λ u. tuple_eq t u ≡ false) (keys_of groups) → met_from o groups t ≡ o
  none_given t o [] apart = refl
  none_given t o (g ∷ groups) apart =
      ap (λ x. met_from x groups t) (ap (λ b. both o (if b then Some g.1 else None)) apart.0 ∙ both_none o) ∙ none_given t o groups apart.1

  -- what groups give a tuple is what the one of the tuple has
  met_once : (groups : List (Group H)) (t : List Cell) → IsDistinct tuple_eq (keys_of groups) → met_from None groups t ≡ lookup (tuple_eq t) groups
  unfolding IsDistinct
  met_once [] t apart = refl
  met_once (g ∷ groups) t apart = by (tuple_eq t g.0) refl (met_once groups t apart.1)
    where
      by : (b : Bool) → tuple_eq t g.0 ≡ b → met_from None groups t ≡ lookup (tuple_eq t) groups →
          met_from (if b then Some g.1 else None) groups t ≡ (if b then Some g.1 else lookup (tuple_eq t) groups)
      by true e rest = let same : t ≡ g.0 = same_tuples t g.0 e in
          none_given t (Some g.1) groups (subst (λ u. AllByRecursion (λ v. tuple_eq u v ≡ false) (keys_of groups)) (sym same) apart.0)
      by false e rest = rest

  -- it is the same in any order
  found_both : (es fs : List (Group H)) (t : List Cell) → IsDistinct tuple_eq (keys_of es) → IsDistinct tuple_eq (keys_of fs) → IsPermutation es fs → lookup (tuple_eq t) es ≡ lookup (tuple_eq t) fs
  found_both es fs t one two moved = by (lookup (tuple_eq t) es) (lookup (tuple_eq t) fs) refl refl
    where
      by : (a b : Option (List (Acc H))) → lookup (tuple_eq t) es ≡ a → lookup (tuple_eq t) fs ≡ b → a ≡ b
      by None None p q = refl
      by (Some v) b p q =
          sym (lookup-from_Contains tuple_eq-equiv t v fs two (Contains-permutation es fs (t, v) moved (Contains-from_lookup same_tuples t v es p))) ∙ q
      by None (Some w) p q =
          sym p ∙ lookup-from_Contains tuple_eq-equiv t w es one
          (Contains-permutation fs es (t, w) (IsPermutation-sym es fs moved) (Contains-from_lookup same_tuples t w fs q))

  module _ (plan : PlanTree) (columns : List ℕ) (some : columns ≡ [] → ⊥) (rows : List RowValue) (groups gs : List (Group H))
      (covers : Covers (aggregations_of plan.items) columns rows groups) (moved : IsPermutation groups gs) (rising : IsRising tuple_cmp (keys_of gs)) where
    aggregations : List Aggregation
    aggregations = aggregations_of plan.items

    by_digits : IsRising (digit_order one_hash tuple_cmp) (keys_of gs)
    by_digits = plain_rising (keys_of gs) rising

    apart : IsDistinct tuple_eq (keys_of gs)
    apart = rising_differ one_hash (keys_of gs) by_digits

    no_start : (columns : List ℕ) → (columns ≡ [] → ⊥) → (t : List Cell) → group {H = H} (aggregations_of plan.items) columns [] t ≡ None
    no_start [] more t = absurd (more refl)
    no_start (c ∷ columns) more t = refl

    gives : (t : List Cell) → lookup (tuple_eq t) gs ≡ group (aggregations_of plan.items) columns rows t
    gives t =
        let before : IsDistinct tuple_eq (keys_of groups) =
        IsDistinct-IsPermutation tuple_eq tuple_eq-equiv.symm (keys_of gs) (keys_of groups) (IsPermutation-sym (keys_of groups) (keys_of gs) (IsPermutation-map (λ g. g.0) groups gs moved)) apart in
        sym (found_both groups gs t before apart moved) ∙ sym (met_once groups t before)
        ∙ ap (λ o. met_from o groups t) (sym (no_start columns some t)) ∙ met_covers (aggregations_of plan.items) columns rows groups t covers

    -- the rows that are made of them are the report's
    pub rows_of_groups : IsSorted tuple_cmp (keys_of gs) → rows_by columns plan gs ≡ set_rows plan columns rows
    rows_of_groups up = rows_are one_hash columns plan rows gs by_digits (record { gives = λ t. value_by_tuple one_hash gs t ∙ gives t }) gs (IsPermutation-refl gs) up
