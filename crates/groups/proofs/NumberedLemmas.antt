-- Rows numbered by their groups.
use Rattle.std.specs.Prelude.{◌≡◌, ℕ, ◌<◌, List, [], ◌∷◌, ◌++◌, drop, length, map, replicate, Option, refl}
use Rattle.std.specs.List.{AllByRecursion, Contains}
use Rattle.std.proofs.Common.{get_or, ap, ap₂, sym, ◌∙◌, subst, arith}
use Rattle.std.proofs.lemmas.List.{get_or-map as get_at, length-map, length-replicate, map-append}
use Rattle.std.proofs.lemmas.List.Elements.{All-from_get_or, All-replicate, recursion_from_All}
use Rattle.std.proofs.lemmas.Simd.{map-map}
use Rattle.std.proofs.Math.ListN.{get_or-map}
use Rattle.cells.specs.Values.{RowValue}
use Rattle.cells.specs.declared.cell.Cell.{Cell}
use Rattle.cells.specs.declared.cell.Cell.TheVariants.{Null}
use Rattle.columns.specs.Columns.{ColumnValue, ColumnsValue, cell_of, cells_at, cells_of, decoded}
use Rattle.groups.specs.Groups.{cell_at, tuple_of}
use Rattle.groups.specs.Numbered.{AreNumbered, HasRows, HaveRows, NumberAll, no_row, picked_rows}
use Rattle.groups.specs.Parting.{AreOfGroups, AreParted, codes_at, no_part, parted_tuples}
use Rattle.groups.specs.declared.parting.Part.{Part}
use Rattle.groups.proofs.TuplesLemmas.{all_at, all_through}

module _ {X Y : Type 0} where
  -- what two lists of things have in common, one by one
  alongside : (f : X → List Cell) (g : X → Cell) (a : Y → List Cell) (b : Y → Cell) (xs : List X) (ys : List Y) → map f xs ≡ map a ys → map g xs ≡ map b ys →
      map (λ x. f x ++ g x ∷ []) xs ≡ map (λ y. a y ++ b y ∷ []) ys
  alongside f g a b [] [] one two = refl
  alongside f g a b [] (y ∷ ys) one two = absurd (omega (arith, ap (λ l. length l) one))
  alongside f g a b (x ∷ xs) [] one two = absurd (omega (arith, ap (λ l. length l) one))
  alongside f g a b (x ∷ xs) (y ∷ ys) one two =
      let first : f x ≡ a y = ap (λ l. get_or l 0 []) one in
      let second : g x ≡ b y = ap (λ l. get_or l 0 Null) two in
      let rest : map (λ x. f x ++ g x ∷ []) xs ≡ map (λ y. a y ++ b y ∷ []) ys = alongside f g a b xs ys (ap (λ l. drop 1 l) one) (ap (λ l. drop 1 l) two) in
      ap₂ (λ (h : List Cell) (t : List (List Cell)). h ∷ t) (ap₂ (λ (l : List Cell) (c : Cell). l ++ c ∷ []) first second) rest

-- ---- one group

all_one : (count : ℕ) → AllByRecursion (λ n. n < 1) (replicate count 0)
all_one count = recursion_from_All (λ n. n < 1) (replicate count 0) (All-replicate (λ n. n < 1) count 0 (omega arith))

pub number_one : (count : ℕ) (numbers : List ℕ) (tuples : List (List Cell)) → numbers ≡ replicate count 0 → tuples ≡ [] ∷ [] → NumberAll count numbers tuples
number_one count numbers tuples e t = rw (e, t) (record { counted = length-replicate count 0; within = all_one count })

one_stands : (rows : List RowValue) → map (λ n. get_or ([] ∷ []) n []) (replicate (length rows) 0) ≡ map (tuple_of []) rows
one_stands [] = refl
one_stands (r ∷ rows) = ap (λ (l : List (List Cell)). [] ∷ l) (one_stands rows)

pub one_of_all : (count : ℕ) (rows : List RowValue) (numbers : List ℕ) (tuples : List (List Cell)) → 0 < count → length rows ≡ count → numbers ≡ replicate count 0 → tuples ≡ [] ∷ [] →
    AreNumbered [] rows numbers tuples
one_of_all count [] numbers tuples some is e t = absurd (omega (arith, some, is))
one_of_all count (r ∷ rows) numbers tuples some is e t =
    rw (e, t, sym is) (record {
      within = all_one (length (r ∷ rows));
      stand = one_stands (r ∷ rows);
      met = λ n h. (0, omega arith, omega (arith, h));
    })

-- ---- the tuples of parts
-- what is so of each thing at a number is so of each part that has one
met_by : (P : ℕ → Type 0) (f : Part → ℕ) (numbers values : List ℕ) (parts : List Part) (n : ℕ) → map (λ k. f (get_or parts k no_part)) numbers ≡ values → AllByRecursion P values → Contains numbers n →
    P (f (get_or parts n no_part))
met_by P f numbers values parts n are all met =
    let g : ℕ → ℕ = λ k. f (get_or parts k no_part) in
    let there : met.0 < length values = omega (arith, met.1, ap (λ l. length l) are, length-map numbers g) in
    subst (λ k. P (g k)) met.2 (subst P (get_or-map g numbers met.0 n) (subst (λ l. P (get_or l met.0 (g n))) (sym are) (all_at P values met.0 (g n) all there)))

read_all : (f : Part → List Cell) (parts : List Part) (numbers : List ℕ) → AllByRecursion (λ n. n < length parts) numbers →
    map (λ n. get_or (map f parts) n []) numbers ≡ map (λ n. f (get_or parts n no_part)) numbers
read_all f parts [] all = refl
read_all f parts (n ∷ numbers) all = ap₂ (λ (h : List Cell) (t : List (List Cell)). h ∷ t) (get_at f parts n no_part [] all.0) (read_all f parts numbers all.1)

-- the cells of the rows of these indexes
pub cells_picked : (column : ColumnValue) (index : ℕ) (all : List RowValue) (rows : List ℕ) → cells_of column ≡ cells_at index all → AllByRecursion (λ i. i < length column.by_row) rows →
    decoded column.cells (codes_at column.by_row rows) ≡ map (cell_at index) (picked_rows all rows)
cells_picked column index all [] is within = refl
cells_picked column index all (r ∷ rows) is within =
    ap₂ (λ (c : Cell) (cs : List Cell). c ∷ cs)
    (sym (get_at (λ c. cell_of column.cells c) column.by_row r 0 Null within.0) ∙ ap (λ l. get_or l r Null) is ∙ get_or-map (cell_at index) all r no_row)
    (cells_picked column index all rows is within.1)

longer_tuples : (set : List ℕ) (index : ℕ) (rows : List RowValue) → map (λ r. tuple_of set r ++ cell_at index r ∷ []) rows ≡ map (tuple_of (set ++ index ∷ [])) rows
longer_tuples set index [] = refl
longer_tuples set index (r ∷ rows) =
    ap₂ (λ (h : List Cell) (t : List (List Cell)). h ∷ t) (sym (map-append (λ c. cell_at c r) set (index ∷ []))) (longer_tuples set index rows)

-- what all groups are below, so are those of parts
pub parts_below : (groups codes numbers : List ℕ) (parts : List Part) → AreParted groups codes numbers parts → (count : ℕ) → AllByRecursion (λ n. n < count) groups → AreOfGroups count parts
parts_below groups codes numbers parts are count all = recursion_from_All _ parts (All-from_get_or (λ (part : Part). part.group < count) parts no_part
    (λ n h. met_by (λ k. k < count) (λ p. p.group) numbers groups parts n are.of_groups all (are.met n h)))

module _ (groups codes numbers : List ℕ) (parts : List Part) (tuples : List (List Cell)) (cells : Option (List Cell)) (are : AreParted groups codes numbers parts) where
  pub number_parts : (count : ℕ) (new : List (List Cell)) → length groups ≡ count → new ≡ parted_tuples tuples cells parts → NumberAll count numbers new
  number_parts count new is e =
      let f : Part → List Cell = λ part. get_or tuples part.group [] ++ cell_of cells part.code ∷ [] in
      record {
        counted = sym (length-map numbers (λ n. (get_or parts n no_part).group)) ∙ ap (λ l. length l) are.of_groups ∙ is;
        within = subst (λ l. AllByRecursion (λ n. n < length l) numbers) (sym e) (all_through _ _ (λ n h. omega (arith, h, length-map parts f)) numbers are.within);
      }

  pub numbered_parts : (set : List ℕ) (index : ℕ) (rows : List RowValue) (new : List (List Cell)) → AreNumbered set rows groups tuples → decoded cells codes ≡ map (cell_at index) rows →
      new ≡ parted_tuples tuples cells parts → AreNumbered (set ++ index ∷ []) rows numbers new
  numbered_parts set index rows new numbered read e =
      let f : Part → List Cell = λ part. get_or tuples part.group [] ++ cell_of cells part.code ∷ [] in
      let one : map (λ n. get_or tuples (get_or parts n no_part).group []) numbers ≡ map (tuple_of set) rows =
      sym (map-map (λ k. get_or tuples k []) (λ n. (get_or parts n no_part).group) numbers) ∙ ap (map (λ k. get_or tuples k [])) are.of_groups ∙ numbered.stand in
      let two : map (λ n. cell_of cells (get_or parts n no_part).code) numbers ≡ map (cell_at index) rows =
      sym (map-map (λ k. cell_of cells k) (λ n. (get_or parts n no_part).code) numbers) ∙ ap (map (λ k. cell_of cells k)) are.of_codes ∙ read in
      subst (AreNumbered (set ++ index ∷ []) rows numbers) (sym e) (record {
        within = all_through _ _ (λ n h. omega (arith, h, length-map parts f)) numbers are.within;
        stand = read_all f parts numbers are.within ∙
            alongside (λ n. get_or tuples (get_or parts n no_part).group []) (λ n. cell_of cells (get_or parts n no_part).code) (tuple_of set) (cell_at index) numbers rows one two ∙
            longer_tuples set index rows;
        met = λ n h. are.met n (omega (arith, h, length-map parts f));
      })

-- ---- set by set
pub rows_counted : (all : List RowValue) (rows : List ℕ) → length (picked_rows all rows) ≡ length rows
rows_counted all rows = length-map rows (λ i. get_or all i no_row)

pub has_rows : (columns : ColumnsValue) (column : ColumnValue) (index : ℕ) (rows : List ℕ) (have : HaveRows columns rows) → cells_of column ≡ cells_at index have.rows → HasRows column rows
has_rows columns column index rows have is = record {
  within = all_through _ _
      (λ i h. omega (arith, h, ap (λ l. length l) is, length-map have.rows (cell_at index), length-map column.by_row (λ code. cell_of column.cells code))) rows have.within;
  few = have.few;
}
