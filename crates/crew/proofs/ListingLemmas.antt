-- Rows dealt out to lists: together they are all rows, and how workers gather them.
use Rattle.std.proofs.Common.{◌≡◌, ℕ, zero, suc, ◌+◌, ◌<◌, ◌≤◌, Bool, true, false, cond, List, [], ◌∷◌, ◌++◌, flat_map, get_or, length, refl, sym, ap, ap₂, ◌∙◌, subst, arith, IsPermutation}
use Rattle.std.specs.List.{AllByRecursion, AllZip, concat, range_with_len}
use Rattle.std.specs.Prelude.{Option, Vec}
use Rattle.std.specs.declared.alloc.Global.{Global}
use Rattle.std.proofs.lemmas.List.{append_assoc, get_or-map, length-append, length-map, map-append, take_all}
use Rattle.std.proofs.Math.Seq.{get_or-append_seam}
use Rattle.std.proofs.lemmas.List.Elements.{All-from_recursion, recursion_from_All}
use Rattle.std.proofs.lemmas.List.FromFn.{length-range_with_len}
use Rattle.std.proofs.lemmas.List.Sorted.{All-permutation, IsPermutation-map, IsPermutation-sym, IsPermutation-trans, length_permutation}
use Rattle.std.proofs.lemmas.Simd.{pick_l-range_with_len}
use Rattle.cells.specs.Values.{RowValue}
use Rattle.columns.specs.Columns.{ColumnsValue, Hold}
use Rattle.crew.specs.Gathering.{AreMadeOf, MayBeJoined, kept_at}
use Rattle.crew.specs.Listing.{AreDealt, FoldsLists, Listed, rows_listed}
use Rattle.crew.specs.Shares.{AreShared}
use Rattle.crew.specs.Tasks.{MayTake}
use Rattle.groups.specs.Dealing.{indexes_of}
use Rattle.groups.specs.Folds.{Folds, MayJoin}
use Rattle.groups.specs.Groups.{keeps, kept}
use Rattle.groups.specs.Laws.{kept_short}
use Rattle.groups.specs.Numbered.{HaveRows, HoldCount, no_row, picked_rows}
use Rattle.groups.specs.declared.folding.Folding.{Folding}
use Rattle.query.specs.Trees.{PredicateTree}
use Rattle.query.specs.declared.test.Test.{Test}
use Rattle.crew.proofs.PartsLemmas.{folded, kept_few, kept_more}
use Rattle.crew.proofs.PlacesLemmas.{all_weaker, permutation_flat_map}

-- ---- lists

below_range : (first count : ℕ) → AllByRecursion (λ i. i < first + count) (range_with_len first count)
below_range first zero = tt
below_range first (suc count) = (omega arith, weaker (range_with_len (first + 1) count) (below_range (first + 1) count))
  where
    weaker : (ns : List ℕ) → AllByRecursion (λ i. i < first + 1 + count) ns → AllByRecursion (λ i. i < first + suc count) ns
    weaker [] all = tt
    weaker (n ∷ ns) all = (omega (arith, all.0), weaker ns all.1)

all_front : (P : ℕ → Type 0) (xs ys : List ℕ) → AllByRecursion P (xs ++ ys) → AllByRecursion P xs
all_front P [] ys all = tt
all_front P (x ∷ xs) ys all = (all.0, all_front P xs ys all.1)

all_back : (P : ℕ → Type 0) (xs ys : List ℕ) → AllByRecursion P (xs ++ ys) → AllByRecursion P ys
all_back P [] ys all = all
all_back P (x ∷ xs) ys all = all_back P xs ys all.1

all_in_list : (P : ℕ → Type 0) (lists : List (List ℕ)) (place : ℕ) → AllByRecursion P (concat lists) → AllByRecursion P (get_or lists place [])
all_in_list P [] place all = tt
all_in_list P (l ∷ lists) zero all = all_front P l (concat lists) all
all_in_list P (l ∷ lists) (suc place) all = all_in_list P lists place (all_back P l (concat lists) all)

list_short : (lists : List (List ℕ)) (place : ℕ) → length (get_or lists place []) ≤ length (concat lists)
list_short [] place = omega arith
list_short (l ∷ lists) zero = omega (arith, length-append l (concat lists))
list_short (l ∷ lists) (suc place) = omega (arith, length-append l (concat lists), list_short lists place)

module _ (count : ℕ) (lists : List (List ℕ)) (dealt : AreDealt count lists) where
  dealt_length : length (concat lists) ≡ count
  dealt_length = omega (arith, length_permutation (concat lists) (range_with_len 0 count) dealt.each, length-range_with_len 0 count)

  dealt_below : AllByRecursion (λ i. i < count) (concat lists)
  dealt_below = recursion_from_All (λ i. i < count) (concat lists)
      (All-permutation (λ i. i < count) (range_with_len 0 count) (concat lists) (IsPermutation-sym (concat lists) (range_with_len 0 count) dealt.each)
      (All-from_recursion (λ i. i < count) (range_with_len 0 count) (all_weaker (λ i. i < 0 + count) (λ i. i < count) (λ i h. omega (arith, h)) (range_with_len 0 count) (below_range 0 count))))

  -- the columns hold the rows of a list
  pub have_list : (columns : ColumnsValue) (it : HoldCount columns count) (place : ℕ) → HaveRows columns (get_or lists place [])
  have_list columns it place = record {
    rows = it.rows;
    held = it.held;
    within = subst (λ n. AllByRecursion (λ i. i < n) (get_or lists place [])) (sym it.counted) (all_in_list (λ i. i < count) lists place dealt_below);
    few = omega (arith, list_short lists place, dealt_length, it.few);
  }

  -- the rows of all lists are all rows, in some order
  pub dealt_rows : (rows : List RowValue) → length rows ≡ count → IsPermutation (picked_rows rows (concat lists)) rows
  dealt_rows rows counted =
      subst (IsPermutation (picked_rows rows (concat lists)))
      (pick_l-range_with_len no_row rows 0 count (omega (arith, counted)) ∙ take_all count rows (omega (arith, counted)))
      (IsPermutation-map (λ i. get_or rows i no_row) (concat lists) (range_with_len 0 count) dealt.each)

-- the same of a list that is lent
pub lent_list : (columns : ColumnsValue) (count : ℕ) (lists : List (Vec ℕ Global)) (place : ℕ) (list : Vec ℕ Global) (lent : List ℕ) → HoldCount columns count → AreDealt count (indexes_of lists) →
    place < length (indexes_of lists) → lent ≡ (get_or lists place list).items → HaveRows columns lent
lent_list columns count lists place list lent it dealt h is =
    subst (HaveRows columns) (get_or-map (λ (list : Vec ℕ Global). list.items) lists place list [] (omega (arith, h, length-map lists (λ (list : Vec ℕ Global). list.items))) ∙ sym is)
    (have_list count (indexes_of lists) dealt columns it place)

-- list by list, those of all lists
listed_from : (f : List ℕ → List RowValue) (front lists : List (List ℕ)) (n : ℕ) → n ≡ length front → ((xs ys : List ℕ) → f (xs ++ ys) ≡ f xs ++ f ys) → f [] ≡ [] →
    flat_map (λ place. f (get_or (front ++ lists) place [])) (range_with_len n (length lists)) ≡ f (concat lists)
listed_from f front [] n at both none = sym none
listed_from f front (l ∷ lists) n at both none =
    let here : get_or (front ++ l ∷ lists) n [] ≡ l = ap (λ k. get_or (front ++ l ∷ lists) k []) at ∙ get_or-append_seam front l lists [] in
    let rest : flat_map (λ place. f (get_or ((front ++ l ∷ []) ++ lists) place [])) (range_with_len (n + 1) (length lists)) ≡ f (concat lists) =
    listed_from f (front ++ l ∷ []) lists (n + 1) (omega (arith, at, length-append front (l ∷ []))) both none in
    ap₂ (λ (a b : List RowValue). a ++ b) (ap f here)
    (ap (λ all. flat_map (λ place. f (get_or all place [])) (range_with_len (n + 1) (length lists))) (sym (append_assoc front (l ∷ []) lists)) ∙ rest) ∙ sym (both l (concat lists))

pub lists_whole : (lists : List (List ℕ)) (rows : List RowValue) → flat_map (rows_listed lists rows) (range_with_len 0 (length lists)) ≡ picked_rows rows (concat lists)
lists_whole lists rows = listed_from (picked_rows rows) [] lists 0 refl (map-append (λ i. get_or rows i no_row)) refl

-- ---- rows that WHERE keeps, in some order

kept_one : (condition : Option (PredicateTree (Test ℕ))) (rows : List RowValue) → flat_map (λ r. cond (keeps condition r) (r ∷ []) []) rows ≡ kept condition rows
kept_one condition [] = refl
kept_one condition (r ∷ rows) = by (keeps condition r) ∙ ap (λ (l : List RowValue). cond (keeps condition r) (r ∷ l) l) (kept_one condition rows)
  where
    by : (b : Bool) → cond b (r ∷ []) [] ++ flat_map (λ r. cond (keeps condition r) (r ∷ []) []) rows ≡
        cond b (r ∷ flat_map (λ r. cond (keeps condition r) (r ∷ []) []) rows) (flat_map (λ r. cond (keeps condition r) (r ∷ []) []) rows)
    by true = refl
    by false = refl

pub kept_any_order : (condition : Option (PredicateTree (Test ℕ))) (xs ys : List RowValue) → IsPermutation xs ys → IsPermutation (kept condition xs) (kept condition ys)
kept_any_order condition xs ys p =
    subst (λ l. IsPermutation l (kept condition ys)) (kept_one condition xs)
    (subst (IsPermutation (flat_map (λ r. cond (keeps condition r) (r ∷ []) []) xs)) (kept_one condition ys) (permutation_flat_map (λ r. cond (keeps condition r) (r ∷ []) []) xs ys p))

module _ {H : Type 0} (listed : Listed) (dealt : AreDealt listed.count listed.lists) where
  -- ---- one worker

  -- what went in so far may be joined with a list
  pub list_meets : (before list : Folding H) (place : ℕ) (it : HoldCount listed.columns listed.count) → MayTake (FoldsLists listed) (length listed.lists) before place →
      Folds listed.plan (kept listed.plan.condition (rows_listed listed.lists it.rows place)) list → MayJoin before list
  list_meets before list place it may_take folds =
      let all : List RowValue = picked_rows it.rows (concat listed.lists) in
      record {
        plan = listed.plan;
        rows = kept_at listed.plan (rows_listed listed.lists it.rows) may_take.places;
        more = kept listed.plan.condition (rows_listed listed.lists it.rows place);
        firsts = may_take.made_of.folds it.rows it.held it.counted;
        seconds = folds;
        few = omega (
          arith,
          kept_few listed.plan (rows_listed listed.lists it.rows) (length listed.lists) all (lists_whole listed.lists it.rows)
              (omega (arith, it.few, length-map (concat listed.lists) (λ i. get_or it.rows i no_row), dealt_length listed.count listed.lists dealt)) may_take.places place may_take.share,
          kept_short (keeps listed.plan.condition) (rows_listed listed.lists it.rows place),
        );
      }

  -- and then its rows went in, too
  pub took_list : (before list new : Folding H) (places : List ℕ) (place : ℕ) → FoldsLists listed places before →
      ((rows : List RowValue) → Hold rows listed.columns → Folds listed.plan (kept listed.plan.condition (rows_listed listed.lists rows place)) list) →
      ((xs ys : List RowValue) → Folds listed.plan xs before → Folds listed.plan ys list → Folds listed.plan (xs ++ ys) new) →
      FoldsLists listed (places ++ place ∷ []) new
  took_list before list new places place firsts seconds joins = record {
    folds = λ rows held counted. subst (λ l. Folds listed.plan l new) (sym (kept_more listed.plan (rows_listed listed.lists rows) places place))
        (joins (kept_at listed.plan (rows_listed listed.lists rows) places) (kept listed.plan.condition (rows_listed listed.lists rows place))
        (firsts.folds rows held counted) (seconds rows held));
  }

  -- ---- all workers

  -- what each made is of the rows, whatever rows the columns hold
  each_folds : (rows : List RowValue) → Hold rows listed.columns → length rows ≡ listed.count → (shares : List (List ℕ)) (foldings : List (Folding H)) →
      AllZip (FoldsLists listed) shares foldings → AllZip (λ places. Folds listed.plan (kept_at listed.plan (rows_listed listed.lists rows) places)) shares foldings
  each_folds rows held counted [] [] all = tt
  each_folds rows held counted [] (one ∷ foldings) all = absurd all
  each_folds rows held counted (places ∷ shares) [] all = absurd all
  each_folds rows held counted (places ∷ shares) (one ∷ foldings) all = (all.0.folds rows held counted, each_folds rows held counted shares foldings all.1)

  pub lists_folded : (rows : List RowValue) → Hold rows listed.columns → length rows ≡ listed.count → (foldings : List (Folding H)) →
      AreShared (FoldsLists listed) (length listed.lists) foldings → AreMadeOf (Folds listed.plan) (kept listed.plan.condition rows) foldings
  lists_folded rows held counted foldings shared =
      let all : List RowValue = picked_rows rows (concat listed.lists) in
      let are = folded listed.plan (rows_listed listed.lists rows) (length listed.lists) all foldings (lists_whole listed.lists rows) (record {
        shares = shared.shares;
        are_shares = shared.are_shares;
        whole = shared.whole;
        given_for = each_folds rows held counted shared.shares foldings shared.given_for;
      }) in
      record {
        parts = are.parts;
        whole = IsPermutation-trans _ _ _ are.whole (kept_any_order listed.plan.condition all rows (dealt_rows listed.count listed.lists dealt rows counted));
        each = are.each;
      }

  pub lists_may_be_joined : (it : HoldCount listed.columns listed.count) (foldings : List (Folding H)) →
      AreShared (FoldsLists listed) (length listed.lists) foldings → MayBeJoined listed.plan foldings
  lists_may_be_joined it foldings shared = record {
    rows = kept listed.plan.condition it.rows;
    made = lists_folded it.rows it.held it.counted foldings shared;
    few = omega (arith, it.few, it.counted, kept_short (keeps listed.plan.condition) it.rows);
  }
