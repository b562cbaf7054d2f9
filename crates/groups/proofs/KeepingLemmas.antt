-- The rows that WHERE keeps, found by the columns that it names.
use Rattle.std.specs.Prelude.{◌≡◌, ℕ, suc, ◌+◌, ◌<◌, ◌≤◌, ◌==◌, ◌&&◌, Bool, true, false, cond, filter, List, [], ◌∷◌, ◌++◌, drop, length, map, min, take, Option, Some, None, refl}
use Rattle.std.specs.List.{AllByRecursion}
use Rattle.std.proofs.Common.{get_or, nat_lt, ap, ap₂, sym, ◌∙◌, subst, arith, eq-eqb}
use Rattle.std.proofs.lemmas.Bool.{ltb-false, ltb-true}
use Rattle.std.proofs.lemmas.List.{append-nil, get_or_default, get_or-map as get_at, length-append, length-map, length-take, map-append, take_all, take_more}
use Rattle.std.proofs.lemmas.List.Elements.{filter-append}
use Rattle.std.proofs.Math.ListN.{get_or-map}
use Rattle.std.proofs.lemmas.List.Sums.{fails_before_first, passes_at_first}
use Rattle.std.proofs.lemmas.Map.Views.{exact_unsigned_eq}
use Rattle.std.specs.List.{position_or_len}
use Rattle.std.proofs.lemmas.List.FromFn.{get_or-map-range_with_len, map-range_with_len_more}
use Rattle.cells.specs.TotalOrder.{cell_total}
use Rattle.cells.specs.Values.{RowValue}
use Rattle.cells.specs.declared.cell.Cell.{Cell}
use Rattle.cells.specs.declared.cell.Cell.TheVariants.{Null}
use Rattle.columns.specs.Columns.{ColumnValue, ColumnsValue, Hold, cell_of, cells_at, cells_of}
use Rattle.cells.specs.declared.total.Total.{Total}
use Rattle.groups.specs.Groups.{cell_at, cell_at_index, is_true, keeps, kept, index_in, tuple_of}
use Rattle.groups.specs.Keeping.{KeptBy, cells_for, chosen, truth_for}
use Rattle.groups.specs.Numbered.{AreNumbered, HaveRows, no_row, picked_rows}
use Rattle.groups.specs.Tallying.{keep_if}
use Rattle.groups.proofs.TallyingLemmas.{passing_few, passing_more}
use Rattle.groups.proofs.TuplesLemmas.{all_first, all_push, take_next}
use Rattle.query.specs.Naming.{AgreeAt, columns_named}
use Rattle.query.specs.Trees.{And, NoPredicates, PredicateTree, predicates_of}
use Rattle.query.specs.Truth.{all_truth, and_truth, truth, truth_by, value_at}
use Rattle.query.specs.declared.truth.Truth.{Truth}
use Rattle.query.specs.declared.truth.Truth.TheVariants.{True, False, Unknown}
use Rattle.query.specs.declared.test.Test.{Test}

-- ---- those that are marked
pub chosen_next : (marks : List Bool) (numbers places : List ℕ) (i : ℕ) → length numbers ≡ length places → i < length places →
    chosen marks (take (i + 1) numbers) (take (i + 1) places) ≡ chosen marks (take i numbers) (take i places) ++ keep_if (get_or marks (get_or numbers i 0) false) (get_or places i 0) []
chosen_next marks numbers places i same h =
    ap₂ (chosen marks) (take_more numbers i 0 (omega (arith, h, same))) (take_more places i 0 h) ∙
    passing_more (λ n. get_or marks n false) (take i numbers) (take i places) (get_or numbers i 0) (get_or places i 0) (length-take i numbers ∙ ap (λ l. min i l) same ∙ sym (length-take i places))

pub chosen_all : (marks : List Bool) (numbers places : List ℕ) (i : ℕ) → length numbers ≤ i → length places ≤ i → chosen marks (take i numbers) (take i places) ≡ chosen marks numbers places
chosen_all marks numbers places i h k = ap₂ (chosen marks) (take_all i numbers h) (take_all i places k)

-- ---- the cells of the named columns
index_there : (named : List ℕ) (k i : ℕ) (r : RowValue) → i < length named → get_or named i 0 ≡ k → cell_at_index (tuple_of named r) (index_in named k) ≡ cell_at k r
index_there named k i r h is = go (nat_lt (position_or_len (λ c. c == k) named) (length named)) refl
  where
    at : ℕ
    at = position_or_len (λ c. c == k) named

    go : (b : Bool) → nat_lt at (length named) ≡ b → cell_at_index (tuple_of named r) (index_in named k) ≡ cell_at k r
    go true f =
        let below : at < length named = ltb-true _ _ f in
        let same : get_or named at 0 ≡ k = exact_unsigned_eq (get_or named at 0) k (passes_at_first (λ c. c == k) named 0 below) in
        rw f
        (get_or_default (tuple_of named r) at Null (cell_at 0 r) (omega (arith, below, length-map named (λ c. cell_at c r))) ∙
        get_or-map (λ c. cell_at c r) named at 0 ∙ ap (λ c. cell_at c r) same)
    go false f =
        let past : length named ≤ at = ltb-false _ _ f in
        let passed : get_or named i 0 == k ≡ true = eq-eqb (get_or named i 0) k is in
        let bad : get_or named i 0 == k ≡ false = fails_before_first (λ c. c == k) named i 0 (omega (arith, h, past)) in
        cc

agree : (named : List ℕ) (width : ℕ) (r : RowValue) → AllByRecursion (λ k. k < width) named → AgreeAt named (map cell_total (cells_for named width (tuple_of named r))) (map cell_total r.cells)
agree named width r below = each named (λ i h. (i, h, refl)) below
  where
    f : ℕ → Cell
    f = λ k. cell_at_index (tuple_of named r) (index_in named k)

    each : (some : List ℕ) → ((i : ℕ) → i < length some → (j : ℕ) × (j < length named) × (get_or named j 0 ≡ get_or some i 0)) → AllByRecursion (λ k. k < width) some →
        AgreeAt some (map cell_total (cells_for named width (tuple_of named r))) (map cell_total r.cells)
    each [] among all = tt
    each (k ∷ some) among all =
        let here : 0 + k ≡ k = omega arith in
        let met : (j : ℕ) × (j < length named) × (get_or named j 0 ≡ k) = among 0 (omega arith) in (
          get_or-map cell_total (cells_for named width (tuple_of named r)) k Null ∙
              ap cell_total (get_or-map-range_with_len f 0 width k k Null all.0 here ∙ index_there named k met.0 r met.1 met.2) ∙
              sym (get_or-map cell_total r.cells k Null),
          each some (λ i h. among (suc i) (omega (arith, h))) all.1,
        )

-- ---- the rows that are chosen
kept_step : (condition : Option (PredicateTree (Test ℕ))) (r : RowValue) (rows : List RowValue) (b : Bool) → keeps condition r ≡ b → kept condition (r ∷ rows) ≡ keep_if b r (kept condition rows)
kept_step condition r rows true e = rw e refl
kept_step condition r rows false e = rw e refl

mapped_if : {X Y : Type 0} (f : X → Y) (b : Bool) (x : X) (xs : List X) → map f (keep_if b x xs) ≡ keep_if b (f x) (map f xs)
mapped_if f true x xs = refl
mapped_if f false x xs = refl

abbrev pub TruthByColumns : Type 0
TruthByColumns = (p : PredicateTree (Test ℕ)) (xs ys : List Total) → AgreeAt (columns_named p) xs ys → truth p xs ≡ truth p ys

pub marked : (law : TruthByColumns) (p : PredicateTree (Test ℕ)) (named : List ℕ) (width : ℕ) → named ≡ columns_named p → AllByRecursion (λ k. k < width) named → (r : RowValue) →
    truth_for p named width (tuple_of named r) ≡ keeps (Some p) r
marked law p named width is below r =
    ap is_true (law p (map cell_total (cells_for named width (tuple_of named r))) (map cell_total r.cells)
    (subst (λ l. AgreeAt l (map cell_total (cells_for named width (tuple_of named r))) (map cell_total r.cells)) is (agree named width r below)))

module _ (law : TruthByColumns) (p : PredicateTree (Test ℕ)) (named : List ℕ) (width : ℕ) (all : List RowValue) (tuples : List (List Cell)) (is : named ≡ columns_named p)
    (below : AllByRecursion (λ k. k < width) named) where
  chosen_kept : (places numbers : List ℕ) → AllByRecursion (λ n. n < length tuples) numbers → map (λ n. get_or tuples n []) numbers ≡ map (tuple_of named) (picked_rows all places) →
      picked_rows all (chosen (map (truth_for p named width) tuples) numbers places) ≡ kept (Some p) (picked_rows all places)
  chosen_kept [] [] within stand = refl
  chosen_kept [] (n ∷ numbers) within stand = absurd (omega (arith, ap (λ l. length l) stand))
  chosen_kept (i ∷ places) [] within stand = absurd (omega (arith, ap (λ l. length l) stand))
  chosen_kept (i ∷ places) (n ∷ numbers) within stand =
      let marks : List Bool = map (truth_for p named width) tuples in
      let r : RowValue = get_or all i no_row in
      let first : get_or tuples n [] ≡ tuple_of named r = ap (λ l. get_or l 0 []) stand in
      let b : Bool = get_or marks n false in
      let same : b ≡ keeps (Some p) r = get_at (truth_for p named width) tuples n [] false within.0 ∙ ap (truth_for p named width) first ∙ marked law p named width is below r in
      let rest : picked_rows all (chosen marks numbers places) ≡ kept (Some p) (picked_rows all places) = chosen_kept places numbers within.1 (ap (λ l. drop 1 l) stand) in
      mapped_if (λ j. get_or all j no_row) b i (chosen marks numbers places) ∙ ap (keep_if b r) rest ∙ sym (kept_step (Some p) r (picked_rows all places) b (sym same))

chosen_among : (n : ℕ) (marks : List Bool) (numbers places : List ℕ) → AllByRecursion (λ i. i < n) places → AllByRecursion (λ i. i < n) (chosen marks numbers places)
chosen_among n marks [] places all = tt
chosen_among n marks (k ∷ numbers) [] all = tt
chosen_among n marks (k ∷ numbers) (i ∷ places) all = each (get_or marks k false) (chosen marks numbers places) (chosen_among n marks numbers places all.1)
  where
    each : (b : Bool) (some : List ℕ) → AllByRecursion (λ i. i < n) some → AllByRecursion (λ i. i < n) (keep_if b i some)
    each true some rest = (all.0, rest)
    each false some rest = rest

pub kept_by : (law : TruthByColumns) (p : PredicateTree (Test ℕ)) (named : List ℕ) (width : ℕ) (all : List RowValue) (places numbers : List ℕ) (tuples : List (List Cell)) (some : List ℕ) →
    named ≡ columns_named p → AllByRecursion (λ k. k < width) named → AreNumbered named (picked_rows all places) numbers tuples →
    some ≡ chosen (map (truth_for p named width) tuples) numbers places → KeptBy p all places some
kept_by law p named width all places numbers tuples some is below now e =
    subst (KeptBy p all places) (sym e) (record {
      kept = chosen_kept law p named width all tuples is below places numbers now.within now.stand;
      among = λ n. chosen_among n (map (truth_for p named width) tuples) numbers places;
      few = passing_few (λ n. get_or (map (truth_for p named width) tuples) n false) numbers places;
    })

-- ---- the next cell
pub cell_next : (named : List ℕ) (tuple read : List Cell) (k : ℕ) (place : Option ℕ) (cell : Cell) (cells added : List Cell) → read ≡ tuple → place ≡ index_in named k →
    cell ≡ cell_at_index read place → cells ≡ cells_for named k tuple → added ≡ cells ++ cell ∷ [] → added ≡ cells_for named (k + 1) tuple
cell_next named tuple read k place cell cells added same at is are e =
    let here : 0 + k ≡ k = omega arith in
    e ∙ ap₂ (λ (l : List Cell) (c : Cell). l ++ c ∷ []) are (is ∙ ap₂ cell_at_index same at) ∙
    sym (map-range_with_len_more (λ j. cell_at_index tuple (index_in named j)) 0 k k here)

pub marked_more : (marks : List Bool) (numbers places : List ℕ) (i : ℕ) (kept added : List ℕ) → length numbers ≡ length places → i < length places → kept ≡ chosen marks (take i numbers) (take i places) →
    get_or marks (get_or numbers i 0) false ≡ true → added ≡ kept ++ get_or places i 0 ∷ [] → added ≡ chosen marks (take (i + 1) numbers) (take (i + 1) places)
marked_more marks numbers places i kept added same h are mark e =
    e ∙ ap₂ (λ (l : List ℕ) (b : Bool). l ++ keep_if b (get_or places i 0) []) are (sym mark) ∙ sym (chosen_next marks numbers places i same h)

pub unmarked_more : (marks : List Bool) (numbers places : List ℕ) (i : ℕ) (kept added : List ℕ) → length numbers ≡ length places → i < length places → kept ≡ chosen marks (take i numbers) (take i places) →
    get_or marks (get_or numbers i 0) false ≡ false → added ≡ kept → added ≡ chosen marks (take (i + 1) numbers) (take (i + 1) places)
unmarked_more marks numbers places i kept added same h are mark e =
    e ∙ are ∙ sym (append-nil (chosen marks (take i numbers) (take i places))) ∙
    ap (λ b. chosen marks (take i numbers) (take i places) ++ keep_if b (get_or places i 0) []) (sym mark) ∙ sym (chosen_next marks numbers places i same h)

-- ---- a row after another

pub kept_next : (p : PredicateTree (Test ℕ)) (all : List RowValue) (places some : List ℕ) (i : ℕ) → i < length places → KeptBy p all (take i places) some → (b : Bool) →
    b ≡ keeps (Some p) (get_or all (get_or places i 0) no_row) → KeptBy p all (take (i + 1) places) (some ++ keep_if b (get_or places i 0) [])
kept_next p all places some i h now b same =
    let x : ℕ = get_or places i 0 in
    let more : take (i + 1) places ≡ take i places ++ x ∷ [] = take_more places i 0 h in
    subst (λ l. KeptBy p all l (some ++ keep_if b x [])) (sym more) (record {
      kept = map-append (λ j. get_or all j no_row) some (keep_if b x []) ∙
          ap₂ (λ (a c : List RowValue). a ++ c) now.kept (mapped_if (λ j. get_or all j no_row) b x [] ∙ sym (kept_step (Some p) (get_or all x no_row) [] b (sym same))) ∙
          sym (filter-append (keeps (Some p)) (picked_rows all (take i places)) (get_or all x no_row ∷ [])) ∙ ap (kept (Some p)) (sym (map-append (λ j. get_or all j no_row) (take i places) (x ∷ [])));
      among = λ n below. among_both n b x (some) (now.among n (all_first (λ j. j < n) (take i places) (x ∷ []) below)) (all_last n (take i places) x below);
      few = omega (arith, now.few, length-append some (keep_if b x []), length-append (take i places) (x ∷ []), short b x);
    })
  where
    all_last : (n : ℕ) (xs : List ℕ) (x : ℕ) → AllByRecursion (λ j. j < n) (xs ++ x ∷ []) → x < n
    all_last n [] x below = below.0
    all_last n (y ∷ xs) x below = all_last n xs x below.1

    among_both : (n : ℕ) (b : Bool) (x : ℕ) (some : List ℕ) → AllByRecursion (λ j. j < n) some → x < n → AllByRecursion (λ j. j < n) (some ++ keep_if b x [])
    among_both n true x some all one = all_push (λ j. j < n) some x all one
    among_both n false x some all one = subst (AllByRecursion (λ j. j < n)) (sym (append-nil some)) all

    short : (b : Bool) (x : ℕ) → length (keep_if b x []) ≤ 1
    short true x = omega arith
    short false x = omega arith

-- the row at i was asked
pub asked_next : (law : TruthByColumns) (p : PredicateTree (Test ℕ)) (named : List ℕ) (width : ℕ) (all : List RowValue) (places some added : List ℕ) (i : ℕ) (lent tuple : List Cell) (b : Bool) →
    named ≡ columns_named p → AllByRecursion (λ k. k < width) named → i < length places → KeptBy p all (take i places) some → lent ≡ tuple →
    tuple ≡ tuple_of named (get_or all (get_or places i 0) no_row) → b ≡ truth_for p named width lent → added ≡ some ++ keep_if b (get_or places i 0) [] → KeptBy p all (take (i + 1) places) added
asked_next law p named width all places some added i lent tuple b is below h now one two asked e =
    subst (KeptBy p all (take (i + 1) places)) (sym e)
    (kept_next p all places some i h now b (asked ∙ ap (truth_for p named width) (one ∙ two) ∙ marked law p named width is below (get_or all (get_or places i 0) no_row)))

-- the cell of a row in a column
pub cell_of_place : (column : ColumnValue) (lent : List ℕ) (index place : ℕ) (all : List RowValue) (cell : Cell) → cells_of column ≡ cells_at index all → lent ≡ column.by_row → place < length lent →
    cell ≡ cell_of column.cells (get_or lent place 0) → cell ≡ cell_at index (get_or all place no_row)
cell_of_place column lent index place all cell is same within read =
    read ∙ ap (λ l. cell_of column.cells (get_or l place 0)) same ∙
    sym (get_at (λ c. cell_of column.cells c) column.by_row place 0 Null (omega (arith, within, ap (λ l. length l) same))) ∙ ap (λ l. get_or l place Null) is ∙ get_or-map (cell_at index) all place no_row

-- ---- no predicate
pub kept_all : (rows : List RowValue) → kept None rows ≡ rows
kept_all [] = refl
kept_all (r ∷ rows) = ap (λ (l : List RowValue). r ∷ l) (kept_all rows)

-- ---- predicates one after another
and_both : (a b : Truth) → is_true (and_truth a b) ≡ (is_true a && is_true b)
and_both True b = refl
and_both False b = refl
and_both Unknown True = refl
and_both Unknown False = refl
and_both Unknown Unknown = refl

both_assoc : (a b c : Bool) → ((a && b) && c) ≡ (a && (b && c))
both_assoc true b c = refl
both_assoc false b c = refl

-- a row for which all are true is one for which those before the last are, and the last
and_last : (value : ℕ → Total) (ps : List (PredicateTree (Test ℕ))) (p : PredicateTree (Test ℕ)) →
    is_true (all_truth value (predicates_of (ps ++ p ∷ []))) ≡ (is_true (all_truth value (predicates_of ps)) && is_true (truth_by value p))
and_last value [] p = and_both (truth_by value p) True ∙ one (is_true (truth_by value p))
  where
    one : (b : Bool) → (b && true) ≡ b
    one true = refl
    one false = refl
and_last value (q ∷ ps) p =
    and_both (truth_by value q) (all_truth value (predicates_of (ps ++ p ∷ []))) ∙ ap (λ b. is_true (truth_by value q) && b) (and_last value ps p) ∙
    sym (both_assoc (is_true (truth_by value q)) (is_true (all_truth value (predicates_of ps))) (is_true (truth_by value p))) ∙
    ap (λ b. b && is_true (truth_by value p)) (sym (and_both (truth_by value q) (all_truth value (predicates_of ps))))

kept_twice : (p q both : RowValue → Bool) → ((r : RowValue) → both r ≡ (q r && p r)) → (rows : List RowValue) → filter p (filter q rows) ≡ filter both rows
kept_twice p q both e [] = refl
kept_twice p q both e (r ∷ rows) = step (q r) ∙ ap (λ b. cond b (r ∷ filter p (filter q rows)) (filter p (filter q rows))) (sym (e r)) ∙ ap (λ (l : List RowValue). cond (both r) (r ∷ l) l) (kept_twice p q both e rows)
  where
    step : (b : Bool) → filter p (cond b (r ∷ filter q rows) (filter q rows)) ≡ cond (b && p r) (r ∷ filter p (filter q rows)) (filter p (filter q rows))
    step true = refl
    step false = refl

all_kept : (rows : List RowValue) → kept (Some (And NoPredicates)) rows ≡ rows
all_kept [] = refl
all_kept (r ∷ rows) = ap (λ (l : List RowValue). r ∷ l) (all_kept rows)

pub kept_by_none : (all : List RowValue) (indexes : List ℕ) → KeptBy (And NoPredicates) all indexes indexes
kept_by_none all indexes = record { kept = sym (all_kept (picked_rows all indexes)); among = λ n h. h; few = omega arith }

kept_by_last : (ps : List (PredicateTree (Test ℕ))) (p : PredicateTree (Test ℕ)) (all : List RowValue) (indexes some fewer : List ℕ) → KeptBy (And (predicates_of ps)) all indexes some → KeptBy p all some fewer →
    KeptBy (And (predicates_of (ps ++ p ∷ []))) all indexes fewer
kept_by_last ps p all indexes some fewer one two = record {
  kept = two.kept ∙ ap (kept (Some p)) one.kept ∙
      kept_twice (keeps (Some p)) (keeps (Some (And (predicates_of ps)))) (keeps (Some (And (predicates_of (ps ++ p ∷ []))))) (λ r. and_last (value_at (map cell_total r.cells)) ps p) (picked_rows all indexes);
  among = λ n h. two.among n (one.among n h);
  few = omega (arith, one.few, two.few);
}

pub kept_by_more : (ps : List (PredicateTree (Test ℕ))) (i : ℕ) (p : PredicateTree (Test ℕ)) (all : List RowValue) (indexes some fewer : List ℕ) → i < length ps → p ≡ get_or ps i p →
    KeptBy (And (predicates_of (take i ps))) all indexes some → KeptBy p all some fewer → KeptBy (And (predicates_of (take (i + 1) ps))) all indexes fewer
kept_by_more ps i p all indexes some fewer h at one two =
    subst (λ l. KeptBy (And (predicates_of l)) all indexes fewer) (sym (take_next ps i p p h at)) (kept_by_last (take i ps) p all indexes some fewer one two)

-- what is left of rows that are there
pub still_have_rows : (columns : ColumnsValue) (indexes some : List ℕ) → HaveRows columns indexes → (p : PredicateTree (Test ℕ)) → ((all : List RowValue) → Hold all columns → KeptBy p all indexes some) →
    HaveRows columns some
still_have_rows columns indexes some have p by =
    let left = by have.rows have.held in
    record { rows = have.rows; held = have.held; within = left.among (length have.rows) have.within; few = omega (arith, left.few, have.few) }
