-- Where a cell counts once, parts are as good as the rows that they are parts of.
use Rattle.std.specs.Prelude.{◌≡◌, ◌≢◌, ℕ, ◌+◌, ◌<◌, ◌≤◌, ◌==◌, ◌&&◌, ◌||◌, ◌⊎◌, Bool, true, false, not, List, [], ◌∷◌, ◌++◌, Vec, length, map, min, replicate, set, take, Option, refl}
use Rattle.std.specs.declared.alloc.Global.{Global}
use Rattle.std.specs.FinSet.{same_set}
use Rattle.std.specs.List.{AllByRecursion, Contains, dedup, list_any}
use Rattle.std.specs.List.Sorted.{IsPermutation}
use Rattle.std.proofs.Common.{get_or, ap, ap₂, sym, ◌∙◌, subst, arith, eq-eqb, inl, inr}
use Rattle.std.specs.Cmp.{both_ways}
use Rattle.std.proofs.lemmas.Bool.Decides.{eqb_tells}
use Rattle.std.proofs.lemmas.List.{append-nil, get_or_default, get_or-map as get_or-map-at, get_or-replicate, get_or-set_other, get_or-set_same, length-map, length-replicate, length-set, length-take, map-set, take_all}
use Rattle.std.proofs.lemmas.Simd.{map-map}
use Rattle.std.proofs.lemmas.List.Kept.{Contains-dedup_nat, Contains-from_dedup}
use Rattle.std.proofs.lemmas.List.Sorted.{IsPermutation-map}
use Rattle.std.proofs.Math.Dec.{eqb}
use Rattle.std.proofs.lemmas.List.Folds.{Any-from_list_any, list_any_at}
use Rattle.std.proofs.Math.ListN.{get_or-map}
use Rattle.aggs.specs.Accs.{acc_of}
use Rattle.aggs.specs.Differing.{contains_different, different, different_any_order}
use Rattle.aggs.specs.Values.{is_null, present}
use Rattle.aggs.specs.declared.acc.Acc.{Acc}
use Rattle.aggs.specs.declared.acc.Acc.TheVariants as acc
use Rattle.aggs.specs.declared.acc.Kind.TheVariants as kind
use Rattle.cells.specs.CellOrder.{cell_cmp-total, cell_eq}
use Rattle.cells.specs.SameKeys.{exact_cells}
use Rattle.cells.specs.declared.cell.Cell.{Cell}
use Rattle.cells.specs.declared.cell.Cell.TheVariants.{Null, Int, Text}
use Rattle.columns.specs.Columns.{cell_of, decoded}
use Rattle.groups.specs.Differing.{AreListed, cells_of_parts, groups_of_parts, lists_of}
use Rattle.groups.specs.Parting.{AreOfGroups, AreParted, codes_at, no_part}
use Rattle.groups.specs.Tallying.{AreTallied, keep_if, passing, those_of}
use Rattle.groups.specs.declared.parting.Part.{Part}
use Rattle.groups.proofs.TallyingLemmas.{passing_more}
use Rattle.groups.proofs.TuplesLemmas.{all_at, take_next}

-- ---- the part at i
pub part_group : (parts : List Part) (i : ℕ) → (get_or parts i no_part).group ≡ get_or (groups_of_parts parts) i 0
part_group parts i = sym (get_or-map (λ (part : Part). part.group) parts i no_part)

pub part_cell : (cells : Option (List Cell)) (parts : List Part) (i : ℕ) (cell : Cell) → i < length parts → cell ≡ cell_of cells (get_or parts i no_part).code →
    cell ≡ get_or (cells_of_parts cells parts) i cell
part_cell cells parts i cell h is =
    let g : Part → Cell = λ part. cell_of cells part.code in
    let there : i < length (cells_of_parts cells parts) = omega (arith, h, length-map parts g) in
    is ∙ sym (get_or-map g parts i no_part) ∙ get_or_default (cells_of_parts cells parts) i (g no_part) cell there

-- ---- those of each number, one after another
module _ {X : Type 0} where
  pub listed_none : (count : ℕ) (lists : List (List X)) → lists ≡ replicate count [] → AreListed count [] [] lists
  listed_none count lists e = rw e (record { counted = length-replicate count []; each = λ n h. get_or-replicate count n [] [] h })

  listed_more : (count : ℕ) (numbers : List ℕ) (xs : List X) (lists : List (List X)) (n : ℕ) (x : X) → length numbers ≡ length xs → n < count → AreListed count numbers xs lists →
      AreListed count (numbers ++ n ∷ []) (xs ++ x ∷ []) (set lists n (get_or lists n [] ++ x ∷ []))
  listed_more count numbers xs lists n x same below now = record {
    counted = length-set lists n (get_or lists n [] ++ x ∷ []) ∙ now.counted;
    each = λ m h. each m h (eqb_tells n m);
  }
    where
      each : (m : ℕ) → m < count → (((n == m) ≡ true) × (n ≡ m)) ⊎ (((n == m) ≡ false) × (n ≢ m)) →
          get_or (set lists n (get_or lists n [] ++ x ∷ [])) m [] ≡ those_of m (numbers ++ n ∷ []) (xs ++ x ∷ [])
      each m h (inl here) =
          subst (λ j. get_or (set lists n (get_or lists n [] ++ x ∷ [])) j [] ≡ those_of j (numbers ++ n ∷ []) (xs ++ x ∷ [])) here.1
          (get_or-set_same lists n (get_or lists n [] ++ x ∷ []) [] (omega (arith, below, now.counted)) ∙ ap (λ l. l ++ x ∷ []) (now.each n below) ∙
          sym (passing_more (λ k. k == n) numbers xs n x same ∙ ap (λ b. those_of n numbers xs ++ keep_if b x []) (eq-eqb n n refl)))
      each m h (inr other) =
          get_or-set_other lists n m (get_or lists n [] ++ x ∷ []) [] (λ z. other.1 (sym z)) ∙ now.each m h ∙
          sym (passing_more (λ k. k == m) numbers xs n x same ∙ ap (λ b. those_of m numbers xs ++ keep_if b x []) other.0 ∙ append-nil (those_of m numbers xs))

  -- the one at i is pushed to the list of its number
  pub listed_push : (count : ℕ) (numbers : List ℕ) (xs : List X) (lists : List (Vec X Global)) (i n : ℕ) (x : X) (old new : Vec X Global) → length numbers ≡ length xs → i < length xs →
      n ≡ get_or numbers i 0 → x ≡ get_or xs i x → n < count → old ≡ get_or lists n old → new.items ≡ old.items ++ x ∷ [] →
      AreListed count (take i numbers) (take i xs) (lists_of lists) → AreListed count (take (i + 1) numbers) (take (i + 1) xs) (lists_of (set lists n new))
  listed_push count numbers xs lists i n x old new same h number at below read is now =
      let long : length (lists_of lists) ≡ length lists = length-map lists (λ list. list.items) in
      let there : get_or (lists_of lists) n [] ≡ old.items =
      get_or-map-at (λ (list : Vec X Global). list.items) lists n old [] (omega (arith, below, long, now.counted)) ∙ ap (λ list. list.items) (sym read) in
      let first : take (i + 1) numbers ≡ take i numbers ++ n ∷ [] = take_next numbers i 0 n (omega (arith, h, same)) number in
      let second : take (i + 1) xs ≡ take i xs ++ x ∷ [] = take_next xs i x x h at in
      let both : length (take i numbers) ≡ length (take i xs) = length-take i numbers ∙ ap (λ l. min i l) same ∙ sym (length-take i xs) in
      subst (λ l. AreListed count l (take (i + 1) xs) (lists_of (set lists n new))) (sym first)
      (subst (λ l. AreListed count (take i numbers ++ n ∷ []) l (lists_of (set lists n new))) (sym second)
      (subst (AreListed count (take i numbers ++ n ∷ []) (take i xs ++ x ∷ []))
      (ap (λ l. set (lists_of lists) n (l ++ x ∷ [])) there ∙ ap (set (lists_of lists) n) (sym is) ∙ sym (map-set (λ (list : Vec X Global). list.items) lists n new))
      (listed_more count (take i numbers) (take i xs) (lists_of lists) n x both below now)))

  pub listed_end : (count : ℕ) (numbers : List ℕ) (xs : List X) (lists : List (List X)) (i : ℕ) → length numbers ≤ i → length xs ≤ i →
      AreListed count (take i numbers) (take i xs) lists → AreListed count numbers xs lists
  listed_end count numbers xs lists i h l now =
      subst (λ k. AreListed count k xs lists) (take_all i numbers h) (subst (λ k. AreListed count (take i numbers) k lists) (take_all i xs l) now)

-- the cell of the part at i is pushed to the list of its group
pub listed_next : (count : ℕ) (parts : List Part) (cells : Option (List Cell)) (lists : List (Vec Cell Global)) (i : ℕ) (cell : Cell) (old new : Vec Cell Global) →
    AreOfGroups count parts → i < length parts → cell ≡ cell_of cells (get_or parts i no_part).code → old ≡ get_or lists (get_or parts i no_part).group old →
    new.items ≡ old.items ++ cell ∷ [] → AreListed count (take i (groups_of_parts parts)) (take i (cells_of_parts cells parts)) (lists_of lists) →
    AreListed count (take (i + 1) (groups_of_parts parts)) (take (i + 1) (cells_of_parts cells parts)) (lists_of (set lists (get_or parts i no_part).group new))
listed_next count parts cells lists i cell old new within h at read is now =
    let below : (get_or parts i no_part).group < count = all_at (λ (p : Part). p.group < count) parts i no_part within h in
    let groups : length (groups_of_parts parts) ≡ length parts = length-map parts (λ (p : Part). p.group) in
    let all : length (cells_of_parts cells parts) ≡ length parts = length-map parts (λ (p : Part). cell_of cells p.code) in
    listed_push count (groups_of_parts parts) (cells_of_parts cells parts) lists i (get_or parts i no_part).group cell old new (groups ∙ sym all) (omega (arith, h, all))
    (part_group parts i) (part_cell cells parts i cell h at) below read is now

pub listed_all : (count : ℕ) (parts : List Part) (cells : Option (List Cell)) (lists : List (List Cell)) (i : ℕ) → length parts ≤ i →
    AreListed count (take i (groups_of_parts parts)) (take i (cells_of_parts cells parts)) lists → AreListed count (groups_of_parts parts) (cells_of_parts cells parts) lists
listed_all count parts cells lists i h now =
    listed_end count (groups_of_parts parts) (cells_of_parts cells parts) lists i (omega (arith, h, length-map parts (λ (p : Part). p.group)))
    (omega (arith, h, length-map parts (λ (p : Part). cell_of cells p.code))) now

pub tallied_lists : {H : Type 0} (count : ℕ) (numbers : List ℕ) (cells : List Cell) (lists : List (List Cell)) (accs : List (Acc H)) → AreListed count numbers cells lists →
    accs ≡ map (acc_of kind.CountDistinct) lists → AreTallied kind.CountDistinct count numbers cells accs
tallied_lists {H} count numbers cells lists accs now e = record {
  counted = ap (λ l. length l) e ∙ length-map lists (acc_of {H = H} kind.CountDistinct) ∙ now.counted;
  each = λ n h d. ap (λ l. get_or l n d) e ∙ get_or-map-at (acc_of {H = H} kind.CountDistinct) lists n [] d (omega (arith, h, now.counted)) ∙ ap (acc_of kind.CountDistinct) (now.each n h);
}

-- ---- whether one of some things is so
pub any_present : (p : Cell → Bool) (cells : List Cell) → list_any p (present cells) ≡ list_any (λ c. not (is_null c) && p c) cells
any_present p [] = refl
any_present p (Null ∷ cells) = any_present p cells
any_present p (Int n ∷ cells) = ap (λ b. p (Int n) || b) (any_present p cells)
any_present p (Text t ∷ cells) = ap (λ b. p (Text t) || b) (any_present p cells)

any_of_number : {X : Type 0} (p : Cell → Bool) (n : ℕ) (f : X → ℕ) (g : X → Cell) (xs : List X) →
    list_any p (those_of n (map f xs) (map g xs)) ≡ list_any (λ x. (f x == n) && p (g x)) xs
any_of_number p n f g [] = refl
any_of_number p n f g (x ∷ xs) = kept (those_of n (map f xs) (map g xs)) (f x == n) ∙ ap (λ b. ((f x == n) && p (g x)) || b) (any_of_number p n f g xs)
  where
    kept : (rest : List Cell) (b : Bool) → list_any p (keep_if b (g x) rest) ≡ ((b && p (g x)) || list_any p rest)
    kept rest true = refl
    kept rest false = refl

-- ---- parts, each of which has a number
module _ (parts : List Part) (numbers : List ℕ) (within : AllByRecursion (λ n. n < length parts) numbers) (met : (n : ℕ) → n < length parts → Contains numbers n) where
  any_of_parts : (p : Part → Bool) → list_any (λ n. p (get_or parts n no_part)) numbers ≡ list_any p parts
  any_of_parts p = both_ways (list_any (λ n. p (get_or parts n no_part)) numbers) (list_any p parts) down up
    where
      down : list_any (λ n. p (get_or parts n no_part)) numbers ≡ true → list_any p parts ≡ true
      down e =
          let found = Any-from_list_any (λ n. p (get_or parts n no_part)) numbers e in
          let below : found.1 < length parts = subst (λ n. n < length parts) found.3 (all_at (λ n. n < length parts) numbers found.0 found.1 within found.2) in
          list_any_at p parts found.1 no_part below found.4

      up : list_any p parts ≡ true → list_any (λ n. p (get_or parts n no_part)) numbers ≡ true
      up e =
          let found = Any-from_list_any p parts e in
          let at = met found.0 found.2 in
          list_any_at (λ n. p (get_or parts n no_part)) numbers at.0 found.0 at.1
          (subst (λ n. p (get_or parts n no_part) ≡ true) (sym at.2) (ap p (get_or_default parts found.0 no_part found.1 found.2 ∙ found.3) ∙ found.4))

module _ (groups codes numbers : List ℕ) (parts : List Part) (cells : Option (List Cell)) (are : AreParted groups codes numbers parts) where
  map_group : groups ≡ map (λ n. (get_or parts n no_part).group) numbers
  map_group = sym are.of_groups

  map_cell : decoded cells codes ≡ map (λ n. cell_of cells (get_or parts n no_part).code) numbers
  map_cell = ap (decoded cells) (sym are.of_codes) ∙ map-map (λ code. cell_of cells code) (λ n. (get_or parts n no_part).code) numbers

  -- the cells of a group are those of its parts, as a set
  same_cells_of : (n : ℕ) → different (those_of n groups (decoded cells codes)) ≡ different (those_of n (groups_of_parts parts) (cells_of_parts cells parts))
  same_cells_of n = same_set cell_cmp-total exact_cells _ _ (λ q.
      let p : Cell → Bool = λ c. not (is_null c) && cell_eq q c in
      let f : Part → ℕ = λ part. part.group in
      let g : Part → Cell = λ part. cell_of cells part.code in
      contains_different (those_of n groups (decoded cells codes)) q ∙ any_present (cell_eq q) (those_of n groups (decoded cells codes)) ∙
      ap₂ (λ (l : List ℕ) (m : List Cell). list_any p (those_of n l m)) map_group map_cell ∙
      any_of_number p n (λ k. f (get_or parts k no_part)) (λ k. g (get_or parts k no_part)) numbers ∙
      any_of_parts parts numbers are.within are.met (λ part. (f part == n) && p (g part)) ∙
      sym (any_of_number p n f g parts) ∙ sym (any_present (cell_eq q) (those_of n (groups_of_parts parts) (cells_of_parts cells parts))) ∙
      sym (contains_different (those_of n (groups_of_parts parts) (cells_of_parts cells parts)) q))

  pub tallied_by_parts : {H : Type 0} (count : ℕ) (accs : List (Acc H)) → AreTallied kind.CountDistinct count (groups_of_parts parts) (cells_of_parts cells parts) accs →
      AreTallied kind.CountDistinct count groups (decoded cells codes) accs
  tallied_by_parts count accs now = record {
    counted = now.counted;
    each = λ n h d. now.each n h d ∙ ap acc.CountDistinct (sym (same_cells_of n));
  }

-- ---- some things, each once

-- whether one of them is so does not ask how often it comes
pub any_once : {X : Type 0} (same : X → X → Bool) → ((xs : List X) (x : X) → Contains xs x → Contains (dedup same xs) x) → (p : X → Bool) (xs : List X) →
    list_any p (dedup same xs) ≡ list_any p xs
any_once same stays p xs = both_ways (list_any p (dedup same xs)) (list_any p xs) down up
  where
    down : list_any p (dedup same xs) ≡ true → list_any p xs ≡ true
    down e =
        let found = Any-from_list_any p (dedup same xs) e in
        let at = Contains-from_dedup same xs found.1 (found.0, found.2, found.3) in
        list_any_at p xs at.0 found.1 at.1 (subst (λ x. p x ≡ true) (sym at.2) found.4)

    up : list_any p xs ≡ true → list_any p (dedup same xs) ≡ true
    up e =
        let found = Any-from_list_any p xs e in
        let at = stays xs found.1 (found.0, found.2, found.3) in
        list_any_at p (dedup same xs) at.0 found.1 at.1 (subst (λ x. p x ≡ true) (sym at.2) found.4)

any_mapped : (p : Cell → Bool) (f : ℕ → Cell) (codes : List ℕ) → list_any p (map f codes) ≡ list_any (λ c. p (f c)) codes
any_mapped p f [] = refl
any_mapped p f (c ∷ codes) = ap (λ b. p (f c) || b) (any_mapped p f codes)

same_codes_once : (f : ℕ → Cell) (codes : List ℕ) → different (map f (dedup eqb codes)) ≡ different (map f codes)
same_codes_once f codes = same_set cell_cmp-total exact_cells _ _ (λ q.
    let p : Cell → Bool = λ c. not (is_null c) && cell_eq q c in
    contains_different (map f (dedup eqb codes)) q ∙ any_present (cell_eq q) (map f (dedup eqb codes)) ∙ any_mapped p f (dedup eqb codes) ∙ any_once eqb Contains-dedup_nat (λ c. p (f c)) codes ∙
    sym (any_mapped p f codes) ∙ sym (any_present (cell_eq q) (map f codes)) ∙ sym (contains_different (map f codes) q))

-- the cells of codes that are sorted, each once, are those of the codes, as a set
pub different_once : (cells : Option (List Cell)) (codes sorted once : List ℕ) → IsPermutation codes sorted → once ≡ dedup eqb sorted →
    different (decoded cells once) ≡ different (decoded cells codes)
different_once cells codes sorted once moved is =
    ap (λ l. different (decoded cells l)) is ∙ same_codes_once (cell_of cells) sorted ∙
    sym (different_any_order (decoded cells codes) (decoded cells sorted) (IsPermutation-map (cell_of cells) codes sorted moved))

passing_map : {X Y : Type 0} (p : ℕ → Bool) (f : X → Y) (numbers : List ℕ) (xs : List X) → passing p numbers (map f xs) ≡ map f (passing p numbers xs)
passing_map p f [] xs = refl
passing_map p f (k ∷ numbers) [] = refl
passing_map {X} {Y} p f (k ∷ numbers) (x ∷ xs) = ap (keep_if (p k) (f x)) (passing_map p f numbers xs) ∙ kept (p k) (passing p numbers xs)
  where
    kept : (b : Bool) (rest : List X) → keep_if b (f x) (map f rest) ≡ map f (keep_if b x rest)
    kept true rest = refl
    kept false rest = refl

pub tallied_codes : {H : Type 0} (count : ℕ) (numbers codes : List ℕ) (cells : Option (List Cell)) (lists : List (List ℕ)) (accs : List (Acc H)) → AreListed count numbers codes lists →
    accs ≡ map (λ list. acc_of kind.CountDistinct (decoded cells list)) lists → AreTallied kind.CountDistinct count numbers (decoded cells codes) accs
tallied_codes {H} count numbers codes cells lists accs now e = record {
  counted = ap (λ l. length l) e ∙ length-map lists (λ list. acc_of {H = H} kind.CountDistinct (decoded cells list)) ∙ now.counted;
  each = λ n h d.
      ap (λ l. get_or l n d) e ∙ get_or-map-at (λ list. acc_of {H = H} kind.CountDistinct (decoded cells list)) lists n [] d (omega (arith, h, now.counted)) ∙
      ap (λ list. acc_of {H = H} kind.CountDistinct (decoded cells list)) (now.each n h) ∙
      ap (acc_of {H = H} kind.CountDistinct) (sym (passing_map (λ k. k == n) (cell_of cells) numbers codes));
}

-- the code of the row at i
pub code_there : (codes rows : List ℕ) (i : ℕ) → i < length rows → get_or codes (get_or rows i 0) 0 ≡ get_or (codes_at codes rows) i (get_or codes (get_or rows i 0) 0)
code_there codes rows i h = sym (get_or-map-at (λ row. get_or codes row 0) rows i 0 (get_or codes (get_or rows i 0) 0) h)
