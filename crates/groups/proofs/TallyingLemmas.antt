-- Accumulators of numbered cells, a cell after another.
use Rattle.std.specs.Prelude.{◌≡◌, ◌≢◌, ℕ, zero, suc, ◌+◌, ◌<◌, ◌≤◌, ◌==◌, ◌⊎◌, Bool, true, false, List, [], ◌∷◌, ◌++◌, length, map, min, replicate, set, take, Option, Some, refl}
use Rattle.std.specs.List.{AllByRecursion}
use Rattle.std.proofs.Common.{get_or, ap, sym, ◌∙◌, subst, arith, eq-eqb, inl, inr}
use Rattle.std.proofs.lemmas.Bool.Decides.{eqb_tells}
use Rattle.std.proofs.lemmas.List.{append-nil, get_or_default, get_or-map, get_or-replicate, get_or-set_other, get_or-set_same, length-map, length-replicate, length-set, length-take, take_all}
use Rattle.aggs.specs.Accs.{acc_of}
use Rattle.aggs.specs.Counts.{rows}
use Rattle.aggs.specs.Room.{cell_limit}
use Rattle.aggs.specs.declared.acc.Acc.{Acc}
use Rattle.aggs.specs.declared.acc.Kind.{Kind}
use Rattle.aggs.specs.declared.count.CountRows.{CountRows}
use Rattle.cells.specs.declared.cell.Cell.{Cell}
use Rattle.cells.specs.declared.cell.Cell.TheVariants.{Null}
use Rattle.columns.specs.Columns.{AreCodes, cell_of, decoded}
use Rattle.groups.specs.Parting.{codes_at}
use Rattle.groups.specs.Tallying.{AreStepped, AreTallied, keep_if, passing, those_of}
use Rattle.groups.proofs.TuplesLemmas.{all_at, take_next}

keep_behind : {X : Type 0} (b : Bool) (x : X) (xs ys : List X) → keep_if b x (xs ++ ys) ≡ keep_if b x xs ++ ys
keep_behind true x xs ys = refl
keep_behind false x xs ys = refl

module _ {X : Type 0} (p : ℕ → Bool) where
  pub passing_more : (numbers : List ℕ) (xs : List X) (n : ℕ) (x : X) → length numbers ≡ length xs →
      passing p (numbers ++ n ∷ []) (xs ++ x ∷ []) ≡ passing p numbers xs ++ keep_if (p n) x []
  passing_more [] [] n x e = refl
  passing_more [] (y ∷ xs) n x e = absurd (omega (arith, e))
  passing_more (k ∷ numbers) [] n x e = absurd (omega (arith, e))
  passing_more (k ∷ numbers) (y ∷ xs) n x e =
      ap (keep_if (p k) y) (passing_more numbers xs n x (omega (arith, e))) ∙ keep_behind (p k) y (passing p numbers xs) (keep_if (p n) x [])

  pub passing_few : (numbers : List ℕ) (xs : List X) → length (passing p numbers xs) ≤ length xs
  passing_few [] xs = omega arith
  passing_few (k ∷ numbers) [] = omega arith
  passing_few (k ∷ numbers) (x ∷ xs) = kept (passing p numbers xs) (p k) (passing_few numbers xs)
    where
      kept : (rest : List X) (b : Bool) → length rest ≤ length xs → length (keep_if b x rest) ≤ suc (length xs)
      kept rest true few = omega (arith, few)
      kept rest false few = omega (arith, few)

-- ---- accumulators of one type
pub stepped_none : {A : Type 0} (of : List Cell → A) (count : ℕ) (accs : List A) → accs ≡ replicate count (of []) → AreStepped of count [] [] accs
stepped_none of count accs made = rw made (record { counted = length-replicate count (of []); each = λ n h d. get_or-replicate count n (of []) d h })

pub stepped_all : {A : Type 0} (of : List Cell → A) (count : ℕ) (numbers : List ℕ) (cells : List Cell) (accs : List A) (i : ℕ) → length numbers ≤ i → length cells ≤ i →
    AreStepped of count (take i numbers) (take i cells) accs → AreStepped of count numbers cells accs
stepped_all of count numbers cells accs i h l now =
    subst (λ x. AreStepped of count x cells accs) (take_all i numbers h) (subst (λ x. AreStepped of count (take i numbers) x accs) (take_all i cells l) now)

module _ {A : Type 0} (of : List Cell → A) (together : A → A → A) (joins : (xs ys : List Cell) → of (xs ++ ys) ≡ together (of xs) (of ys)) where
  -- a cell more
  stepped_more : (count : ℕ) (numbers : List ℕ) (cells : List Cell) (accs : List A) (n : ℕ) (cell : Cell) (new d : A) → length numbers ≡ length cells → n < count →
      AreStepped of count numbers cells accs → new ≡ together (get_or accs n d) (of (cell ∷ [])) →
      AreStepped of count (numbers ++ n ∷ []) (cells ++ cell ∷ []) (set accs n new)
  stepped_more count numbers cells accs n cell new d same below now is = record {
    counted = length-set accs n new ∙ now.counted;
    each = λ m h e. each m h e (eqb_tells n m);
  }
    where
      joined : new ≡ of (those_of n numbers cells ++ cell ∷ [])
      joined = is ∙ ap (λ (a : A). together a (of (cell ∷ []))) (now.each n below d) ∙ sym (joins (those_of n numbers cells) (cell ∷ []))

      each : (m : ℕ) → m < count → (e : A) → (((n == m) ≡ true) × (n ≡ m)) ⊎ (((n == m) ≡ false) × (n ≢ m)) → get_or (set accs n new) m e ≡ of (those_of m (numbers ++ n ∷ []) (cells ++ cell ∷ []))
      each m h e (inl here) =
          subst (λ j. get_or (set accs n new) j e ≡ of (those_of j (numbers ++ n ∷ []) (cells ++ cell ∷ []))) here.1
          (get_or-set_same accs n new e (omega (arith, below, now.counted)) ∙ joined ∙
          ap of (sym (passing_more (λ k. k == n) numbers cells n cell same ∙ ap (λ b. those_of n numbers cells ++ keep_if b cell []) (eq-eqb n n refl))))
      each m h e (inr other) =
          get_or-set_other accs n m new e (λ z. other.1 (sym z)) ∙ now.each m h e ∙
          ap of (sym (passing_more (λ k. k == m) numbers cells n cell same ∙ ap (λ b. those_of m numbers cells ++ keep_if b cell []) other.0 ∙ append-nil (those_of m numbers cells)))

  -- the cell at i goes behind those before it
  pub stepped_next : (count : ℕ) (numbers : List ℕ) (cells : List Cell) (accs : List A) (i n : ℕ) (cell : Cell) (new acc : A) → length numbers ≡ length cells →
      i < length cells → cell ≡ get_or cells i cell → n ≡ get_or numbers i 0 → n < count → acc ≡ get_or accs n acc → AreStepped of count (take i numbers) (take i cells) accs →
      new ≡ together acc (of (cell ∷ [])) → AreStepped of count (take (i + 1) numbers) (take (i + 1) cells) (set accs n new)
  stepped_next count numbers cells accs i n cell new acc same h at number below read now is =
      let first : take (i + 1) numbers ≡ take i numbers ++ n ∷ [] = take_next numbers i 0 n (omega (arith, h, same)) number in
      let second : take (i + 1) cells ≡ take i cells ++ cell ∷ [] = take_next cells i cell cell h at in
      let both : length (take i numbers) ≡ length (take i cells) = length-take i numbers ∙ ap (λ l. min i l) same ∙ sym (length-take i cells) in
      subst (λ l. AreStepped of count l (take (i + 1) cells) (set accs n new)) (sym first)
      (subst (λ l. AreStepped of count (take i numbers ++ n ∷ []) l (set accs n new)) (sym second)
      (stepped_more count (take i numbers) (take i cells) accs n cell new acc both below now (is ∙ ap (λ (a : A). together a (of (cell ∷ []))) read)))

-- the accumulator may be stepped with the cell at i
pub fits_cell : {A : Type 0} (of : List Cell → A) (fits : A → A → Type 0) → ((xs ys : List Cell) → length xs + length ys ≤ cell_limit → fits (of xs) (of ys)) →
    (count : ℕ) (numbers : List ℕ) (cells : List Cell) (accs : List A) (i n : ℕ) (cell : Cell) (acc : A) → i < length cells → n < count → acc ≡ get_or accs n acc → length cells ≤ cell_limit →
    AreStepped of count (take i numbers) (take i cells) accs → fits acc (of (cell ∷ []))
fits_cell {A} of fits room count numbers cells accs i n cell acc h below read few now =
    let before : List Cell = those_of n (take i numbers) (take i cells) in
    subst (λ (a : A). fits a (of (cell ∷ []))) (sym (read ∙ now.each n below acc))
    (room before (cell ∷ []) (omega (arith, few, h, passing_few (λ k. k == n) (take i numbers) (take i cells), length-take i cells)))

-- accumulators of one type are tallies among those of any kind
pub tallied_as : {A H : Type 0} (of : List Cell → A) (acc : A → Acc H) (k : Kind) → ((xs : List Cell) → acc (of xs) ≡ acc_of k xs) →
    (count : ℕ) (numbers : List ℕ) (cells : List Cell) (accs : List A) (all : List (Acc H)) → AreStepped of count numbers cells accs → all ≡ map acc accs → AreTallied k count numbers cells all
tallied_as of acc k is count numbers cells accs all now e = record {
  counted = ap (λ l. length l) e ∙ length-map accs acc ∙ now.counted;
  each = λ n h d. ap (λ l. get_or l n d) e ∙ get_or-map acc accs n (of []) d (omega (arith, h, now.counted)) ∙ ap acc (now.each n h (of [])) ∙ is (those_of n numbers cells);
}

-- ---- rows that are counted
abbrev pub nulls : List ℕ → List Cell
nulls numbers = map (λ n. Null) numbers

abbrev pub rows_of : List Cell → CountRows
rows_of cells = rows (length cells)

as_many : {X Y : Type 0} (m : ℕ) (numbers : List ℕ) (xs : List X) (ys : List Y) → length xs ≡ length ys → length (those_of m numbers xs) ≡ length (those_of m numbers ys)
as_many m [] xs ys e = refl
as_many m (k ∷ numbers) [] [] e = refl
as_many m (k ∷ numbers) [] (y ∷ ys) e = absurd (omega (arith, e))
as_many m (k ∷ numbers) (x ∷ xs) [] e = absurd (omega (arith, e))
as_many {X} {Y} m (k ∷ numbers) (x ∷ xs) (y ∷ ys) e = kept (those_of m numbers xs) (those_of m numbers ys) (k == m) (as_many m numbers xs ys (omega (arith, e)))
  where
    kept : (one : List X) (two : List Y) (b : Bool) → length one ≡ length two → length (keep_if b x one) ≡ length (keep_if b y two)
    kept one two true same = ap suc same
    kept one two false same = same

pub counted_any : (count : ℕ) (numbers : List ℕ) (cells : List Cell) (accs : List CountRows) → length cells ≡ length numbers → AreStepped rows_of count numbers (nulls numbers) accs →
    AreStepped rows_of count numbers cells accs
counted_any count numbers cells accs same now = record {
  counted = now.counted;
  each = λ n h d. now.each n h d ∙ ap rows (as_many n numbers (nulls numbers) cells (length-map numbers (λ n. Null) ∙ sym same));
}

pub null_there : (numbers : List ℕ) (i : ℕ) → Null ≡ get_or (nulls numbers) i Null
null_there [] i = refl
null_there (n ∷ numbers) zero = refl
null_there (n ∷ numbers) (suc i) = null_there numbers i

pub decoded_length : (cells : Option (List Cell)) (by_row rows : List ℕ) → length (decoded cells (codes_at by_row rows)) ≡ length rows
decoded_length cells by_row rows = length-map (codes_at by_row rows) (λ c. cell_of cells c) ∙ length-map rows (λ row. get_or by_row row 0)

-- the cell of the code of the row at i
pub cell_there : (cells : Option (List Cell)) (by_row rows : List ℕ) (i : ℕ) (cell : Cell) → i < length rows → cell ≡ cell_of cells (get_or by_row (get_or rows i 0) 0) →
    cell ≡ get_or (decoded cells (codes_at by_row rows)) i cell
cell_there cells by_row rows i cell h is =
    let all : List Cell = decoded cells (codes_at by_row rows) in
    let there : i < length all = omega (arith, h, decoded_length cells by_row rows) in
    is ∙ sym (get_or-map (λ c. cell_of cells c) (codes_at by_row rows) i 0 Null (omega (arith, h, length-map rows (λ row. get_or by_row row 0))) ∙
    ap (λ c. cell_of cells c) (get_or-map (λ row. get_or by_row row 0) rows i 0 0 h)) ∙ get_or_default all i Null cell there

pub listed_there : (cells : List Cell) (by_row rows : List ℕ) (i : ℕ) (cell : Cell) → i < length rows → AllByRecursion (λ r. r < length by_row) rows → AreCodes (Some cells) by_row →
    cell ≡ get_or cells (get_or by_row (get_or rows i 0) 0) cell → cell ≡ get_or (decoded (Some cells) (codes_at by_row rows)) i cell
listed_there cells by_row rows i cell h within are is =
    let code : get_or by_row (get_or rows i 0) 0 < length cells =
    all_at (λ c. c < length cells) by_row (get_or rows i 0) 0 are (all_at (λ r. r < length by_row) rows i 0 within h) in
    cell_there (Some cells) by_row rows i cell h (is ∙ get_or_default cells (get_or by_row (get_or rows i 0) 0) cell Null code)
