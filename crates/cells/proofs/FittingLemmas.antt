-- What is read as a row fits its table.
use Rattle.std.proofs.Common.{arith, refl, ◌≡◌, ◌≢◌, ap, inl, inr, subst, ◌∙◌, cond}
use Rattle.std.proofs.lemmas.Bool.{cases_Bool}
use Rattle.std.proofs.lemmas.Bool.Decides.{nat_tests}
use Rattle.std.proofs.lemmas.Option.{unwrap_or-slice_get}
use Rattle.std.specs.Prelude.{ℤ, ℕ, zero, suc, ◌≤◌, Bool, true, false, List, [], ◌∷◌, ⊤, drop, length, nat_le, nat_lt, slice_index_or, Option, Some, None, option_map, option_and_then, unwrap_or}
use Rattle.std.specs.Int.RustNames.{unsigned_abs}
use Rattle.std.specs.List.{slice_get}
use Rattle.std.specs.Str.Parse.{starts_with_minus}
use Rattle.std.specs.Str.{is_utf8}
use Rattle.cells.specs.Fitting.{AreOfColumns, IsOfType, IsRowOf}
use Rattle.cells.specs.Integers.{integer_of, natural_of, negative, positive}
use Rattle.cells.specs.Limits.{integer_limit, text_limit}
use Rattle.cells.specs.Records.{cell_of, cells_of, keyed, row_of, text_cell}
use Rattle.cells.specs.Values.{RowValue, Table}
use Rattle.cells.specs.declared.cell.Cell.{Cell}
use Rattle.cells.specs.declared.cell.Cell.TheVariants as cell
use Rattle.cells.specs.declared.schema.Column.{Column}
use Rattle.cells.specs.declared.schema.ColumnType.{ColumnType}
use Rattle.cells.specs.declared.schema.ColumnType.TheVariants as column

some_same : {A : Type 0} (x y : A) → Some x ≡ Some y → x ≡ y
some_same x y e = cc

-- the cell that there is, if there is one, fits
abbrev Fits : ColumnType → Option Cell → Type 0
Fits kind None = ⊤
Fits kind (Some x) = IsOfType x kind

-- the integer that there is, if there is one, has 64 bits
abbrev IsShort : Option ℤ → Type 0
IsShort None = ⊤
IsShort (Some n) = unsigned_abs n ≤ integer_limit

negative_is_short : (n : ℕ) → IsShort (negative n)
negative_is_short zero = omega arith
negative_is_short (suc n) = elim (cases_Bool (nat_le (suc n) integer_limit)) [
  | inl y ↦ rw y (grind (arith, nat_tests))
  | inr n ↦ rw n tt
]

positive_is_short : (n : ℕ) → IsShort (positive n)
positive_is_short n = elim (cases_Bool (nat_lt n integer_limit)) [
  | inl y ↦ rw y (grind (arith, nat_tests))
  | inr n ↦ rw n tt
]

short_if : (f : ℕ → Option ℤ) → ((n : ℕ) → IsShort (f n)) → (o : Option ℕ) → IsShort (option_and_then f o)
short_if f h None = tt
short_if f h (Some n) = h n

integer_is_short : (minus : Bool) (bs : List ℕ) →
    IsShort (cond minus (option_and_then negative (natural_of (drop 1 bs))) (option_and_then positive (natural_of bs)))
integer_is_short true bs = short_if negative negative_is_short (natural_of (drop 1 bs))
integer_is_short false bs = short_if positive positive_is_short (natural_of bs)

integer_fits : (o : Option ℤ) → IsShort o → Fits column.Int (option_map cell.Int o)
integer_fits None short = tt
integer_fits (Some n) short = short

short_fits : (b : Bool) (bs : List ℕ) → Fits column.Text (cond b (Some (cell.Text bs)) None)
short_fits true bs = tt
short_fits false bs = tt

text_fits : (kind : ColumnType) (bs : List ℕ) → Fits kind (text_cell kind bs)
text_fits column.Int bs = integer_fits (integer_of bs) (integer_is_short (starts_with_minus bs) bs)
text_fits column.Text bs = short_fits (nat_le (length bs) text_limit) bs

utf8_fits : (b : Bool) (kind : ColumnType) (bs : List ℕ) → Fits kind (cond b (text_cell kind bs) None)
utf8_fits true kind bs = text_fits kind bs
utf8_fits false kind bs = tt

cell_fits : (kind : ColumnType) (bs : List ℕ) → Fits kind (cell_of kind bs)
cell_fits kind [] = tt
cell_fits kind (b ∷ bs) = utf8_fits (is_utf8 (b ∷ bs)) kind (b ∷ bs)

-- the same of the cells of a record
abbrev FitAll : List Column → Option (List Cell) → Type 0
FitAll columns None = ⊤
FitAll columns (Some xs) = AreOfColumns xs columns

one_more : (c : Column) (cs : List Column) (o : Option Cell) (p : Option (List Cell)) → Fits c.kind o → FitAll cs p →
    FitAll (c ∷ cs) (option_and_then (λ x. option_map (λ (xs : List Cell). x ∷ xs) p) o)
one_more c cs None p first rest = tt
one_more c cs (Some x) None first rest = tt
one_more c cs (Some x) (Some xs) first rest = (first, rest)

cells_fit : (cs : List Column) (fs : List (List ℕ)) → FitAll cs (cells_of cs fs)
cells_fit [] [] = tt
cells_fit [] (f ∷ fs) = tt
cells_fit (c ∷ cs) [] = tt
cells_fit (c ∷ cs) (f ∷ fs) = one_more c cs (cell_of c.kind f) (cells_of cs fs) (cell_fits c.kind f) (cells_fit cs fs)

-- a cell at a place is there, where it is no NULL
is_there : (o : Option Cell) (x : Cell) → unwrap_or o cell.Null ≡ x → x ≢ cell.Null → o ≡ Some x
is_there None x is full = absurd (full (cc))
is_there (Some y) x is full = ap Some is

row_fits_at : (t : Table) (x : Cell) (xs : List Cell) → AreOfColumns xs t.columns → slice_index_or xs t.key cell.Null ≡ x → x ≢ cell.Null →
    IsRowOf t (record { key = x; cells = xs })
row_fits_at t x xs fit place full = record {
  cells = fit;
  key = is_there (slice_get xs t.key) x (unwrap_or-slice_get xs t.key cell.Null ∙ place) full;
  full = full;
}

keyed_fits : (t : Table) (x : Cell) (xs : List Cell) (row : RowValue) → AreOfColumns xs t.columns → slice_index_or xs t.key cell.Null ≡ x →
    keyed x xs ≡ Some row → IsRowOf t row
keyed_fits t cell.Null xs row fit place e = absurd (cc)
keyed_fits t (cell.Int n) xs row fit place e = subst (IsRowOf t) (some_same _ row e) (row_fits_at t (cell.Int n) xs fit place (λ null. cc))
keyed_fits t (cell.Text s) xs row fit place e = subst (IsRowOf t) (some_same _ row e) (row_fits_at t (cell.Text s) xs fit place (λ null. cc))

read_fits : (t : Table) (o : Option (List Cell)) (row : RowValue) → FitAll t.columns o →
    option_and_then (λ xs. keyed (slice_index_or xs t.key cell.Null) xs) o ≡ Some row → IsRowOf t row
read_fits t None row fit e = absurd (cc)
read_fits t (Some xs) row fit e = keyed_fits t (slice_index_or xs t.key cell.Null) xs row fit refl e

pub row_fits : (t : Table) (fields : List (List ℕ)) (row : RowValue) → row_of t fields ≡ Some row → IsRowOf t row
row_fits t fields row e = read_fits t (cells_of t.columns fields) row (cells_fit t.columns fields) e
