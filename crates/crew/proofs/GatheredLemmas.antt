-- What workers have of the pieces that they drew, step by step.
use Rattle.std.proofs.Common.{◌≡◌, ℕ, ◌+◌, ◌≤◌, true, List, [], ◌∷◌, ◌++◌, ap, arith, flat_map, length, subst, sym, ◌∙◌, append_assoc, IsPermutation}
use Rattle.std.specs.Prelude.{slice_index_or}
use Rattle.std.proofs.lemmas.List.{append-nil, length-append, length-map, nil_from_length}
use Rattle.std.proofs.lemmas.List.Sorted.{IsPermutation-append, IsPermutation-append_comm, IsPermutation-append_left, IsPermutation-append_right, IsPermutation-refl, IsPermutation-trans, length_permutation}
use Rattle.aggs.specs.Room.{cell_limit}
use Rattle.cells.specs.Values.{RowValue}
use Rattle.columns.specs.Columns.{ColumnsValue, HaveAll, Hold, has}
use Rattle.crew.specs.Gathered.{Gathers, MayFold, MayMeet}
use Rattle.crew.specs.Gathering.{AreMadeOf, PieceValue, rows_at, rows_at_place, rows_in}
use Rattle.crew.specs.Shares.{AreShared}
use Rattle.crew.specs.Tasks.{MayTake}
use Rattle.crew.specs.declared.gathered.Gathered.{Gathered}
use Rattle.groups.specs.Folds.{Folds, MayEnd, MayJoin}
use Rattle.groups.specs.Groups.{keeps, kept}
use Rattle.groups.specs.Laws.{kept_join, kept_short}
use Rattle.groups.specs.Needed.{Serve, needed_by}
use Rattle.groups.specs.Numbered.{HoldCount}
use Rattle.groups.specs.Partials.{rows_of}
use Rattle.groups.specs.declared.folding.Folding.{Folding}
use Rattle.query.specs.Plans.{PlanTree}
use Rattle.crew.proofs.GatheringLemmas.{rows_at_all}
use Rattle.crew.proofs.ListingLemmas.{kept_any_order}
use Rattle.crew.proofs.PartsLemmas.{first_two, last_one, made_of_shares, none_made, one_more, share_short}

-- ---- columns

have_still : (named : List ℕ) (old new : ColumnsValue) → ((index : ℕ) → has new index ≡ has old index) → HaveAll named old → HaveAll named new
have_still [] old new same all = tt
have_still (k ∷ named) old new same all = (subst (λ b. b ≡ true) (sym (same k)) all.0, have_still named old new same all.1)

have_both : (named : List ℕ) (one two new : ColumnsValue) → ((index : ℕ) → has one index ≡ true → has two index ≡ true → has new index ≡ true) → HaveAll named one → HaveAll named two → HaveAll named new
have_both [] one two new both a b = tt
have_both (k ∷ named) one two new both a b = (both k a.0 b.0, have_both named one two new both a.1 b.1)

-- ---- order

-- what is in the middle of two may change places
two_in_the_middle : (a b c d : List RowValue) → IsPermutation ((a ++ b) ++ (c ++ d)) ((a ++ c) ++ (b ++ d))
two_in_the_middle a b c d =
    rw (append_assoc a b (c ++ d), append_assoc a c (b ++ d), sym (append_assoc b c d), sym (append_assoc c b d))
    (IsPermutation-append_right a ((b ++ c) ++ d) ((c ++ b) ++ d) (IsPermutation-append_left d (b ++ c) (c ++ b) (IsPermutation-append_comm b c)))

-- ---- two workers

-- what both folded may be joined
pub they_may_join : {H : Type 0} (one two : Gathered H) → MayMeet one two → MayJoin one.folding two.folding
they_may_join one two may =
    let a = may.firsts in
    let b = may.seconds in
    record {
      plan = may.plan;
      rows = kept may.plan.condition a.folded;
      more = kept may.plan.condition b.folded;
      firsts = a.folds;
      seconds = b.folds;
      few = omega (
        arith,
        may.few,
        kept_short (keeps may.plan.condition) a.folded,
        kept_short (keeps may.plan.condition) b.folded,
        length-append a.folded a.left,
        length-append b.folded b.left,
        length_permutation _ _ a.whole,
        length_permutation _ _ b.whole,
      );
    }

pub counts_fit : {H : Type 0} (one two : Gathered H) → MayMeet one two → one.count + two.count ≤ cell_limit
counts_fit one two may =
    let a = may.firsts in
    let b = may.seconds in
    omega (arith, may.few, a.counted, b.counted, length-append a.folded a.left, length-append b.folded b.left, length_permutation _ _ a.whole, length_permutation _ _ b.whole)

module _ {H : Type 0} (plan : PlanTree) where
  pub in_other_order : (rows all : List RowValue) (made : Gathered H) → IsPermutation rows all → Gathers plan rows made → Gathers plan all made
  in_other_order rows all made order it = record {
    folded = it.folded;
    left = it.left;
    whole = IsPermutation-trans _ _ _ it.whole order;
    folds = it.folds;
    held = it.held;
    serve = it.serve;
    counted = it.counted;
  }

  -- ---- one worker

  pub gathers_none : (made : Gathered H) → Folds plan [] made.folding → Hold [] made.columns → Serve plan made.columns → made.count ≡ 0 → Gathers plan [] made
  gathers_none made folds held serve none = record { folded = []; left = []; whole = IsPermutation-refl []; folds = folds; held = held; serve = serve; counted = none }

  -- with the rows of a piece
  pub gathers_more : (old new : Gathered H) (piece : PieceValue) (rows : List RowValue) → new.folding ≡ old.folding → ((index : ℕ) → has new.columns index ≡ has old.columns index) →
      ((xs : List RowValue) → Hold xs old.columns → Hold (xs ++ rows_of piece) new.columns) → new.count ≡ old.count + length piece → Gathers plan rows old →
      Gathers plan (rows ++ rows_of piece) new
  gathers_more old new piece rows same has_same taken count it = record {
    folded = it.folded;
    left = it.left ++ rows_of piece;
    whole = subst (λ l. IsPermutation l (rows ++ rows_of piece)) (append_assoc it.folded it.left (rows_of piece)) (IsPermutation-append_left (rows_of piece) (it.folded ++ it.left) rows it.whole);
    folds = subst (Folds plan (kept plan.condition it.folded)) (sym same) it.folds;
    held = taken it.left it.held;
    serve = have_still (needed_by plan) old.columns new.columns has_same it.serve;
    counted = omega (arith, count, it.counted, length-append it.left (rows_of piece), length-map piece (λ e. e.1));
  }

  -- the columns hold as many rows as are counted
  pub left_counted : (made : Gathered H) → MayFold plan made → HoldCount made.columns made.count
  left_counted made may =
      let it = may.gathers in
      record {
        rows = it.left;
        held = it.held;
        counted = sym it.counted;
        few = omega (arith, may.few, it.counted, length-append it.folded it.left, length_permutation _ _ it.whole);
      }

  module _ (old : Gathered H) (more : Folding H) (all_left : (left : List RowValue) → Hold left old.columns → length left ≡ old.count → Folds plan (kept plan.condition left) more) where
    -- what is folded of the columns may be joined
    pub left_may_join : MayFold plan old → MayJoin old.folding more
    left_may_join may =
        let it = may.gathers in
        record {
          plan = plan;
          rows = kept plan.condition it.folded;
          more = kept plan.condition it.left;
          firsts = it.folds;
          seconds = all_left it.left it.held (sym it.counted);
          few = omega (
            arith,
            may.few,
            kept_short (keeps plan.condition) it.folded,
            kept_short (keeps plan.condition) it.left,
            length-append it.folded it.left,
            length_permutation _ _ it.whole,
          );
        }

    -- and then it is of all rows
    pub all_folded : (new : Folding H) (rows : List RowValue) → ((xs ys : List RowValue) → Folds plan xs old.folding → Folds plan ys more → Folds plan (xs ++ ys) new) → (it : Gathers plan rows old) →
        Folds plan (kept plan.condition (it.folded ++ it.left)) new
    all_folded new rows joins it =
        subst (λ l. Folds plan l new) (sym (kept_join plan.condition it.folded it.left))
        (joins (kept plan.condition it.folded) (kept plan.condition it.left) it.folds (all_left it.left it.held (sym it.counted)))

    pub gathers_folded : (new : Gathered H) (rows : List RowValue) → ((xs ys : List RowValue) → Folds plan xs old.folding → Folds plan ys more → Folds plan (xs ++ ys) new.folding) → Hold [] new.columns →
        Serve plan new.columns → new.count ≡ 0 → Gathers plan rows old → Gathers plan rows new
    gathers_folded new rows joins held serve none it = record {
      folded = it.folded ++ it.left;
      left = [];
      whole = subst (λ l. IsPermutation l rows) (sym (append-nil (it.folded ++ it.left))) it.whole;
      folds = all_folded new.folding rows joins it;
      held = held;
      serve = serve;
      counted = none;
    }

  -- ---- the pieces of a table

  module _ (pieces : List PieceValue) (few : length (rows_in pieces) ≤ cell_limit) (made : Gathered H) (place : ℕ) (may : MayTake (λ places. Gathers {H = H} plan (rows_at pieces places)) (length pieces) made place) where
    -- with one piece more there are not too many rows
    pub few_with_piece : length (rows_at pieces may.places) + length (rows_at_place pieces place) ≤ cell_limit
    few_with_piece = omega (arith, few, share_short (rows_at_place pieces) (length pieces) may.places place may.share, ap (λ l. length l) (rows_at_all pieces))

    pub has_room : (piece : PieceValue) → piece ≡ slice_index_or pieces place [] → made.count + length piece ≤ cell_limit
    has_room piece is =
        let it = may.made_of in
        omega (
          arith,
          few_with_piece,
          it.counted,
          length-append it.folded it.left,
          length_permutation _ _ it.whole,
          ap (λ p. length p) is,
          length-map (slice_index_or pieces place []) (λ e. e.1),
        )

    -- all rows that were taken may be folded
    pub may_fold : (piece : PieceValue) → piece ≡ slice_index_or pieces place [] → (new : Gathered H) → Gathers plan (rows_at pieces may.places ++ rows_of piece) new → MayFold plan new
    may_fold piece is new it = record {
      rows = rows_at pieces may.places ++ rows_of piece;
      gathers = it;
      few = omega (arith, few_with_piece, length-append (rows_at pieces may.places) (rows_of piece), ap (λ p. length (rows_of p)) is);
    }

  -- with one piece more
  pub piece_taken : (pieces : List PieceValue) (places : List ℕ) (place : ℕ) (piece : PieceValue) → piece ≡ slice_index_or pieces place [] → (new : Gathered H) →
      Gathers plan (rows_at pieces places ++ rows_of piece) new → Gathers plan (rows_at pieces (places ++ place ∷ [])) new
  piece_taken pieces places place piece is new it =
      subst (λ l. Gathers plan l new) (ap (λ p. rows_at pieces places ++ rows_of p) is ∙ sym (one_more (rows_at_place pieces) places place)) it

  -- ---- all workers

  pub gathers_both : (one two new : Gathered H) (rows more : List RowValue) → ((xs ys : List RowValue) → Folds plan xs one.folding → Folds plan ys two.folding → Folds plan (xs ++ ys) new.folding) →
      ((xs ys : List RowValue) → Hold xs one.columns → Hold ys two.columns → Hold (xs ++ ys) new.columns) →
      ((index : ℕ) → has one.columns index ≡ true → has two.columns index ≡ true → has new.columns index ≡ true) → new.count ≡ one.count + two.count →
      Gathers plan rows one → Gathers plan more two → Gathers plan (rows ++ more) new
  gathers_both one two new rows more joins held has_both count a b = record {
    folded = a.folded ++ b.folded;
    left = a.left ++ b.left;
    whole = IsPermutation-trans _ _ _ (two_in_the_middle a.folded b.folded a.left b.left) (IsPermutation-append (a.folded ++ a.left) rows (b.folded ++ b.left) more a.whole b.whole);
    folds = subst (λ l. Folds plan l new.folding) (sym (kept_join plan.condition a.folded b.folded)) (joins (kept plan.condition a.folded) (kept plan.condition b.folded) a.folds b.folds);
    held = held a.left b.left a.held b.held;
    serve = have_both (needed_by plan) one.columns two.columns new.columns has_both a.serve b.serve;
    counted = omega (arith, count, a.counted, b.counted, length-append a.left b.left);
  }

  -- what all workers gathered is of all pieces
  pub all_gathered : (pieces : List PieceValue) (made : List (Gathered H)) → AreShared (λ places. Gathers plan (rows_at pieces places)) (length pieces) made → AreMadeOf (Gathers plan) (rows_in pieces) made
  all_gathered pieces made shared = made_of_shares (rows_at_place pieces) (Gathers plan) (rows_in pieces) (length pieces) made (rows_at_all pieces) shared

  pub two_meet : (all : List RowValue) → length all ≤ cell_limit → (first second : Gathered H) (left : List (Gathered H)) → AreMadeOf (Gathers plan) all (first ∷ second ∷ left) → MayMeet first second
  two_meet all few first second left are =
      let two = first_two (Gathers plan) all first second left are in
      record {
        plan = plan;
        rows = two.rows;
        more = two.more;
        firsts = two.firsts;
        seconds = two.seconds;
        few = omega (
          arith,
          few,
          length-append two.rows two.more,
          length-append (two.rows ++ two.more) (flat_map (λ part. part) two.parts),
          length_permutation _ _ two.whole,
        );
      }

  pub nobody : (all : List RowValue) (made : Gathered H) → AreMadeOf (Gathers {H = H} plan) all [] → Gathers plan [] made → Gathers plan all made
  nobody all made are none = in_other_order [] all made (none_made (Gathers plan) all are) none

  pub last_of_all : (all : List RowValue) (made : Gathered H) → AreMadeOf (Gathers plan) all (made ∷ []) → Gathers plan all made
  last_of_all all made are = let it = last_one (Gathers plan) all made are in in_other_order it.rows all made it.order it.held

  -- ---- the end

  -- where no rows are left, all are folded
  pub none_left : (made : Gathered H) (rows : List RowValue) (it : Gathers plan rows made) → made.count ≡ 0 → IsPermutation (kept plan.condition it.folded) (kept plan.condition rows)
  none_left made rows it none =
      let left : it.left ≡ [] = nil_from_length it.left (omega (arith, none, it.counted)) in
      kept_any_order plan.condition it.folded rows (subst (λ l. IsPermutation l rows) (ap (λ l. it.folded ++ l) left ∙ append-nil it.folded) it.whole)

  pub none_left_ends : (made : Gathered H) → MayFold plan made → MayEnd made.folding
  none_left_ends made may =
      let it = may.gathers in
      record {
        plan = plan;
        taken = kept plan.condition it.folded;
        folds = it.folds;
        few = omega (arith, may.few, kept_short (keeps plan.condition) it.folded, length-append it.folded it.left, length_permutation _ _ it.whole);
      }

  pub all_in_order : (made : Gathered H) (rows : List RowValue) (it : Gathers plan rows made) → IsPermutation (kept plan.condition (it.folded ++ it.left)) (kept plan.condition rows)
  all_in_order made rows it = kept_any_order plan.condition (it.folded ++ it.left) rows it.whole

  pub all_ends : (made : Gathered H) (new : Folding H) (may : MayFold plan made) → Folds plan (kept plan.condition (may.gathers.folded ++ may.gathers.left)) new → MayEnd new
  all_ends made new may folds =
      let it = may.gathers in
      record {
        plan = plan;
        taken = kept plan.condition (it.folded ++ it.left);
        folds = folds;
        few = omega (arith, may.few, kept_short (keeps plan.condition) (it.folded ++ it.left), length_permutation _ _ it.whole);
      }
