-- Cells in bytes: what stands first, what is left behind it, and one cell more.
use Rattle.std.proofs.Common.{◌≡◌, ℕ, zero, suc, ◌+◌, ◌-◌, ◌<◌, ◌≤◌, ◌^◌, ◌==◌, false, cond, List, [], ◌∷◌, ◌++◌, length, take, drop, get_or, refl, sym, ap, ◌∙◌, subst, arith, length-append, length-drop, ℤ, FitsSigned, IsUtf8, OnOk, Result, Ok, Err, is_ok, slice_index_or}
use Rattle.std.proofs.Math.Facts.{Fits-of_z}
use Rattle.std.proofs.Math.Bridge.{le_prop}
use Rattle.std.proofs.Math.Nat.{ℕ_set}
use Rattle.std.proofs.Math.Seq.{take-length}
use Rattle.std.proofs.Math.Logic.{∥∥₁_elim, ∥∥₁_prop}
use mir.Val.{bits}
use Rattle.std.proofs.lemmas.Bool.Decides.{nat_tests}
use Rattle.std.proofs.lemmas.Grind.{merely}
use Rattle.std.proofs.lemmas.List.{drop-append-le, take-append-le, drop-drop, get_or-drop, nil_from_length, take_all, take_more}
use Rattle.std.proofs.lemmas.Nat.{from_le_bytes-to_le_bytes_2, from_le_bytes-to_le_bytes_4, from_le_bytes-to_le_bytes_8}
use Rattle.std.proofs.lemmas.Int.{to_z-of_z}
use Rattle.std.specs.Coded.{codes}
use Rattle.std.specs.Int.{cast_signed, Width, cast_unsigned, from_le_bytes, to_le_bytes, w16, w32, w64}
use Rattle.cells.specs.declared.cell.Cell.{Cell}
use Rattle.cells.specs.declared.cell.Cell.TheVariants as cell
use Rattle.cells.specs.declared.packing.CellForm.{CellForm}
use Rattle.cells.specs.declared.packing.CellForm.TheVariants.{Null, Int32, Int64, ShortText, LongText}
use Rattle.cells.specs.Codes.{coded_cell}
use Rattle.cells.specs.RowForms.{packed_row}
use Rattle.cells.specs.Packing.{Fills, IsFirst, IsLeft, IsMoreBy, IsPacked, IsSpelt, cell_behind, cells_in, first_cell, first_size, form_of, long_len, size_behind}

-- ---- the cell that stands first

module _ (bytes : List ℕ) (first : ℕ) (behind : List ℕ) (form : CellForm) (is : bytes ≡ first ∷ behind) (formed : form ≡ form_of first) where
  pub size_is : first_size bytes ≡ suc (size_behind form behind)
  unfolding first_size
  size_is = rw (is, formed) refl

  pub cell_is : first_cell bytes ≡ cell_behind form behind
  unfolding first_cell
  cell_is = rw (is, formed) refl

  pub within : IsFirst bytes → size_behind form behind ≤ length behind
  within whole = let inside = whole.inside in let size = size_is in let len = ap length is in omega arith

  pub spelt_behind : IsFirst bytes → IsSpelt (cell_behind form behind)
  spelt_behind whole = subst IsSpelt cell_is whole.spelt

  pub drop_first : drop (first_size bytes) bytes ≡ drop (size_behind form behind) behind
  drop_first = ap (λ n. drop n bytes) size_is ∙ ap (drop (suc (size_behind form behind))) is

pub first_of_none : first_cell [] ≡ cell.Null
unfolding first_cell
first_of_none = refl

-- ---- bytes behind a cell leave it as it is

long_len-append : (behind own : List ℕ) → 2 ≤ length behind → long_len (behind ++ own) ≡ long_len behind
long_len-append [] own h = absurd (omega arith)
long_len-append (low ∷ []) own h = absurd (omega arith)
long_len-append (low ∷ high ∷ rest) own h = refl

size_behind-append : (form : CellForm) (behind own : List ℕ) → size_behind form behind ≤ length behind → size_behind form (behind ++ own) ≡ size_behind form behind
size_behind-append LongText behind own h = ap (λ n. 2 + n) (long_len-append behind own (omega arith))
size_behind-append other behind own h = refl

cell_behind-append : (form : CellForm) (behind own : List ℕ) → size_behind form behind ≤ length behind → cell_behind form (behind ++ own) ≡ cell_behind form behind
cell_behind-append Null behind own h = refl
cell_behind-append Int32 behind own h = ap (λ bs. cell.Int (cast_signed w32 (from_le_bytes w32 bs))) (take-append-le 4 behind own h)
cell_behind-append Int64 behind own h = ap (λ bs. cell.Int (cast_signed w64 (from_le_bytes w64 bs))) (take-append-le 8 behind own h)
cell_behind-append (ShortText len) behind own h = ap cell.Text (take-append-le len behind own h)
cell_behind-append LongText behind own h =
    let left = length-drop 2 behind in
    let same = long_len-append behind own (omega arith) in
    ap (λ n. cell.Text (take n (drop 2 (behind ++ own)))) same
    ∙ ap (λ bs. cell.Text (take (long_len behind) bs)) (drop-append-le 2 behind own (omega arith))
    ∙ ap cell.Text (take-append-le (long_len behind) (drop 2 behind) own (omega arith))

module _ (own : List ℕ) where
  size-append : (bytes : List ℕ) → first_size bytes ≤ length bytes → first_size (bytes ++ own) ≡ first_size bytes
  unfolding first_size
  size-append [] h = absurd (omega arith)
  size-append (first ∷ behind) h = ap suc (size_behind-append (form_of first) behind own (omega arith))

  cell-append : (bytes : List ℕ) → first_size bytes ≤ length bytes → first_cell (bytes ++ own) ≡ first_cell bytes
  unfolding first_size first_cell
  cell-append [] h = absurd (omega arith)
  cell-append (first ∷ behind) h = cell_behind-append (form_of first) behind own (omega arith)

  whole-append : (bytes : List ℕ) → IsFirst bytes → IsFirst (bytes ++ own)
  whole-append bytes whole =
      let size = size-append bytes whole.inside in
      let len = length-append bytes own in
      let inside = whole.inside in
      record { inside = omega arith; spelt = subst IsSpelt (sym (cell-append bytes whole.inside)) whole.spelt }

  left-append : (bytes : List ℕ) → IsFirst bytes → drop (first_size (bytes ++ own)) (bytes ++ own) ≡ drop (first_size bytes) bytes ++ own
  left-append bytes whole = ap (λ n. drop n (bytes ++ own)) (size-append bytes whole.inside) ∙ drop-append-le (first_size bytes) bytes own whole.inside

-- ---- that bytes are cells is a proposition

IsSpelt-prop : (x : Cell) → IsProp (IsSpelt x)
IsSpelt-prop cell.Null = hlevel
IsSpelt-prop other = hlevel

IsFirst-prop : (bytes : List ℕ) → IsProp (IsFirst bytes)
IsFirst-prop bytes = hlevel (IsSpelt-prop, le_prop)

Fills-prop : (n : ℕ) (bytes : List ℕ) → IsProp (Fills n bytes)
unfolding Fills
Fills-prop zero bytes = hlevel ℕ_set
Fills-prop (suc n) bytes = let first = IsFirst-prop bytes in let rest = Fills-prop n (drop (first_size bytes) bytes) in hlevel (first, rest)

Fills-had : (n : ℕ) (bytes : List ℕ) → ∥ Fills n bytes ∥₁ → Fills n bytes
Fills-had n bytes had = ∥∥₁_elim had (Fills-prop n bytes) (λ fills. fills)

-- the same of equal numbers and bytes
pub fills_as : (n m : ℕ) (bytes same : List ℕ) → ∥ Fills n bytes ∥₁ → m ≡ n → same ≡ bytes → Fills m same
fills_as n m bytes same had count is = subst (Fills m) (sym is) (subst (λ k. Fills k bytes) (sym count) (Fills-had n bytes had))

-- ---- one cell more

fills_more : (n : ℕ) (bytes own : List ℕ) → Fills n bytes → Fills 1 own → Fills (suc n) (bytes ++ own)
unfolding Fills
fills_more zero bytes own none one = subst (λ bs. Fills 1 (bs ++ own)) (sym (nil_from_length bytes none)) one
fills_more (suc n) bytes own some one =
    (whole-append own bytes some.0, subst (Fills (suc n)) (sym (left-append own bytes some.0)) (fills_more n (drop (first_size bytes) bytes) own some.1 one))

cells_more : (n : ℕ) (bytes own : List ℕ) → Fills n bytes → cells_in (suc n) (bytes ++ own) ≡ cells_in n bytes ++ first_cell own ∷ []
unfolding Fills cells_in
cells_more zero bytes own none = ap (λ bs. first_cell (bs ++ own) ∷ []) (nil_from_length bytes none)
cells_more (suc n) bytes own some =
    ap (λ x. x ∷ cells_in (suc n) (drop (first_size (bytes ++ own)) (bytes ++ own))) (cell-append own bytes some.0.inside)
    ∙ ap (λ bs. first_cell bytes ∷ cells_in (suc n) bs) (left-append own bytes some.0)
    ∙ ap (λ xs. first_cell bytes ∷ xs) (cells_more n (drop (first_size bytes) bytes) own some.1)

module _ (n : ℕ) (x : Cell) (old new : List ℕ) (had : ∥ Fills n old ∥₁) (more : IsMoreBy x old new) where
  pub more_fills : ∥ Fills (n + 1) new ∥₁
  more_fills =
      let count : suc n ≡ n + 1 = omega arith in
      merely (subst (λ k. Fills k new) count (subst (Fills (suc n)) (sym more.is) (fills_more n old more.own (Fills-had n old had) more.packed.fills)))

  pub more_cells : cells_in (n + 1) new ≡ cells_in n old ++ x ∷ []
  more_cells =
      let count : n + 1 ≡ suc n = omega arith in
      ap (λ k. cells_in k new) count ∙ ap (cells_in (suc n)) more.is ∙ cells_more n old more.own (Fills-had n old had) ∙ ap (λ y. cells_in n old ++ y ∷ []) more.packed.is

-- no cells are no bytes
pub fills_none : (bytes : List ℕ) → bytes ≡ [] → ∥ Fills 0 bytes ∥₁
unfolding Fills
fills_none bytes none = merely (ap length none)

pub cells_in_none : (bytes : List ℕ) → cells_in 0 bytes ≡ []
unfolding cells_in
cells_in_none bytes = refl

-- the row of equal parts
pub packed_as : (key place n count : ℕ) (bytes same : List ℕ) → place ≡ key → count ≡ n → same ≡ bytes → packed_row place count same ≡ packed_row key n bytes
packed_as key place n count bytes same p c b =
    ap (λ k. packed_row k count same) p ∙ ap (λ k. packed_row key k same) c ∙ ap (packed_row key n) b

pub cells_in-length : (n : ℕ) (bytes : List ℕ) → length (cells_in n bytes) ≡ n
unfolding cells_in
cells_in-length zero bytes = refl
cells_in-length (suc n) bytes = ap suc (cells_in-length n (drop (first_size bytes) bytes))

-- ---- what is left behind the first cells

pub left_all : (n : ℕ) (bytes : List ℕ) → Fills n bytes → IsLeft n 0 (cells_in n bytes) bytes
left_all n bytes fills =
    let count : n - 0 ≡ n = omega arith in
    record { fills = subst (λ k. Fills k bytes) (sym count) fills; cells = ap (λ k. cells_in k bytes) count }

-- the same of equal numbers, bytes and cells
pub left_as : (n count : ℕ) (bytes same : List ℕ) (xs : List Cell) → ∥ Fills n bytes ∥₁ → count ≡ n → same ≡ bytes → cells_in n bytes ≡ xs → IsLeft count 0 xs same
left_as n count bytes same xs had c b is =
    subst (λ ys. IsLeft count 0 ys same) (ap (λ k. cells_in k same) c ∙ ap (cells_in n) b ∙ is) (left_all count same (fills_as n count bytes same had c b))

left_length : (n i : ℕ) (xs : List Cell) (rest : List ℕ) → IsLeft n i xs rest → n - i ≡ length xs - i
left_length n i xs rest left = sym (cells_in-length (n - i) rest) ∙ ap length left.cells ∙ length-drop i xs

-- nothing is left
pub left_none : (n i : ℕ) (xs : List Cell) (rest : List ℕ) → n ≤ i → IsLeft n i xs rest → take i xs ≡ xs
left_none n i xs rest end left = let len = left_length n i xs rest left in take_all i xs (omega arith)

module _ (n i : ℕ) (xs : List Cell) (rest : List ℕ) (inside : i < n) (left : IsLeft n i xs rest) where
  count : n - i ≡ suc (n - (i + 1))
  count = omega (arith, inside)

  fills_next : Fills (suc (n - (i + 1))) rest
  fills_next = subst (λ k. Fills k rest) count left.fills

  cells_next : cells_in (suc (n - (i + 1))) rest ≡ drop i xs
  cells_next = ap (λ k. cells_in k rest) (sym count) ∙ left.cells

  pub left_first : IsFirst rest
  unfolding Fills
  left_first = fills_next.0

  pub left_cell : (d : Cell) → first_cell rest ≡ slice_index_or xs i d
  unfolding cells_in
  left_cell d =
      let place : i + 0 ≡ i = omega arith in
      ap (λ ys. get_or ys 0 d) cells_next ∙ get_or-drop i xs 0 d ∙ ap (λ k. get_or xs k d) place

  pub left_next : IsLeft n (i + 1) xs (drop (first_size rest) rest)
  unfolding Fills cells_in
  left_next = record { fills = fills_next.1; cells = ap (drop 1) cells_next ∙ drop-drop 1 i xs }

  pub left_taken : take i xs ++ first_cell rest ∷ [] ≡ take (i + 1) xs
  left_taken =
      let len = left_length n i xs rest left in
      ap (λ x. take i xs ++ x ∷ []) (left_cell cell.Null) ∙ sym (take_more xs i cell.Null (omega (arith, inside)))

-- ---- what is left, by steps; of it no more is known than that it is there

Cell-prop : (x y : Cell) → IsProp (x ≡ y)
Cell-prop x y = hlevel (codes, coded_cell)

pub left_fills : (n i : ℕ) (xs : List Cell) (rest : List ℕ) → ∥ IsLeft n i xs rest ∥₁ → Fills (n - i) rest
left_fills n i xs rest had = ∥∥₁_elim had (Fills-prop (n - i) rest) (λ left. left.fills)

pub left_on : (n i k : ℕ) (xs : List Cell) (rest more : List ℕ) → i ≤ k → ∥ IsLeft n i xs rest ∥₁ → IsLeft (n - i) (k - i) (cells_in (n - i) rest) more → ∥ IsLeft n k xs more ∥₁
left_on n i k xs rest more h had on = ∥∥₁_elim had ∥∥₁_prop (λ left. merely (both left))
  where
    count : n - i - (k - i) ≡ n - k
    count = omega (arith, h)

    place : i + (k - i) ≡ k
    place = omega (arith, h)

    both : IsLeft n i xs rest → IsLeft n k xs more
    both left = record {
      fills = subst (λ j. Fills j more) count on.fills;
      cells = ap (λ j. cells_in j more) (sym count) ∙ on.cells ∙ ap (drop (k - i)) left.cells ∙ drop-drop (k - i) i xs ∙ ap (λ j. drop j xs) place;
    }

module _ (n i : ℕ) (xs : List Cell) (rest : List ℕ) (inside : i < n) (had : ∥ IsLeft n i xs rest ∥₁) where
  pub there_first : IsFirst rest
  there_first = ∥∥₁_elim had (IsFirst-prop rest) (λ left. left_first n i xs rest inside left)

  pub there_cell : first_cell rest ≡ slice_index_or xs i cell.Null
  there_cell = ∥∥₁_elim had (Cell-prop _ _) (λ left. left_cell n i xs rest inside left cell.Null)

-- ---- the bytes of each form

first_short : (n : ℕ) → n < 252 → form_of (n + 3) ≡ ShortText n
unfolding form_of
first_short n h =
    let a : (n + 3 == 0) ≡ false = grind (arith, nat_tests) in
    let b : (n + 3 == 1) ≡ false = grind (arith, nat_tests) in
    let c : (n + 3 == 2) ≡ false = grind (arith, nat_tests) in
    let d : (n + 3 == 255) ≡ false = grind (arith, nat_tests) in
    let e : n + 3 - 3 ≡ n = omega arith in
    rw (a, b, c, d, e) refl

packed_by : (form : CellForm) (first : ℕ) (behind : List ℕ) (x : Cell) → form ≡ form_of first → size_behind form behind ≡ length behind → cell_behind form behind ≡ x
    → IsSpelt x → IsPacked x (first ∷ behind)
unfolding Fills
packed_by form first behind x formed size is spelt =
    let whole = size_is (first ∷ behind) first behind form refl formed in
    let same : first_cell (first ∷ behind) ≡ x = cell_is (first ∷ behind) first behind form refl formed ∙ is in
    record {
      fills = (
        record { inside = omega arith; spelt = subst IsSpelt (sym same) spelt },
        ap length (drop_first (first ∷ behind) first behind form refl formed) ∙ (let left = length-drop (size_behind form behind) behind in omega arith),
      );
      is = same;
    }

pub packed_null : IsPacked cell.Null (0 ∷ [])
unfolding form_of
packed_null = packed_by Null 0 [] cell.Null refl refl refl tt

unsigned_below : (w : Width) (n : ℤ) → FitsSigned w n → cast_unsigned w n < 2 ^ bits w
unsigned_below w n fits = (Fits-of_z fits).fits

pub packed_int_32 : (n : ℤ) → FitsSigned w32 n → IsPacked (cell.Int n) (1 ∷ to_le_bytes w32 (cast_unsigned w32 n))
unfolding form_of
packed_int_32 n fits =
    let back = ap (cast_signed w32) (from_le_bytes-to_le_bytes_4 (cast_unsigned w32 n) (unsigned_below w32 n fits)) ∙ to_z-of_z w32 n fits in
    packed_by Int32 1 (to_le_bytes w32 (cast_unsigned w32 n)) (cell.Int n) refl refl (ap cell.Int back) tt

pub packed_int_64 : (n : ℤ) → FitsSigned w64 n → IsPacked (cell.Int n) (2 ∷ to_le_bytes w64 (cast_unsigned w64 n))
unfolding form_of
packed_int_64 n fits =
    let back = ap (cast_signed w64) (from_le_bytes-to_le_bytes_8 (cast_unsigned w64 n) (unsigned_below w64 n fits)) ∙ to_z-of_z w64 n fits in
    packed_by Int64 2 (to_le_bytes w64 (cast_unsigned w64 n)) (cell.Int n) refl refl (ap cell.Int back) tt

-- the same as the calls of the integers' methods say them
abbrev read_back : Width → ℤ → ℤ
read_back w n = cast_signed w (cast_unsigned w n)

pub packed_small : (n small : ℤ) (bytes : List ℕ) → FitsSigned w64 n → FitsSigned w32 (read_back w64 n) → small ≡ read_back w64 n
    → bytes ≡ to_le_bytes w32 (cast_unsigned w32 (read_back w32 small)) → IsPacked (cell.Int n) (1 ∷ bytes)
packed_small n small bytes fits few is written =
    let same : small ≡ n = is ∙ to_z-of_z w64 n fits in
    let small_fits : FitsSigned w32 small = subst (FitsSigned w32) (sym is) few in
    let own : bytes ≡ to_le_bytes w32 (cast_unsigned w32 small) = written ∙ ap (λ z. to_le_bytes w32 (cast_unsigned w32 z)) (to_z-of_z w32 small small_fits) in
    subst (λ bs. IsPacked (cell.Int n) (1 ∷ bs)) (sym own) (subst (λ z. IsPacked (cell.Int z) (1 ∷ to_le_bytes w32 (cast_unsigned w32 small))) same (packed_int_32 small small_fits))

pub packed_large : (n : ℤ) (bytes : List ℕ) → FitsSigned w64 n → bytes ≡ to_le_bytes w64 (cast_unsigned w64 (read_back w64 n)) → IsPacked (cell.Int n) (2 ∷ bytes)
packed_large n bytes fits written =
    let own = written ∙ ap (λ z. to_le_bytes w64 (cast_unsigned w64 z)) (to_z-of_z w64 n fits) in
    subst (λ bs. IsPacked (cell.Int n) (2 ∷ bs)) (sym own) (packed_int_64 n fits)

module _ (t : List ℕ) (spelt : ∥ IsUtf8 t ∥₁) where
  pub packed_short : length t < 252 → IsPacked (cell.Text t) ((length t + 3) ∷ t)
  packed_short few = packed_by (ShortText (length t)) (length t + 3) t (cell.Text t) (sym (first_short (length t) few)) refl (ap cell.Text (take-length t)) spelt

  pub packed_long : length t < 2 ^ 16 → IsPacked (cell.Text t) (255 ∷ (to_le_bytes w16 (length t) ++ t))
  unfolding form_of
  packed_long many =
      let len : long_len (to_le_bytes w16 (length t) ++ t) ≡ length t = from_le_bytes-to_le_bytes_2 (length t) many in
      packed_by LongText 255 (to_le_bytes w16 (length t) ++ t) (cell.Text t) refl (ap (λ n. 2 + n) len ∙ omega arith) (ap (λ n. cell.Text (take n t)) len ∙ ap cell.Text (take-length t)) spelt

-- what an append of these bytes leaves
pub more_by : {E : Type 0} (r : Result Unit E) (x : Cell) (old own new : List ℕ) → new ≡ cond (is_ok r) (old ++ own) old → IsPacked x own → OnOk r (IsMoreBy x old new)
more_by (Ok u) x old own new e packed = record { own = own; packed = packed; is = e }
more_by (Err error) x old own new e packed = tt
