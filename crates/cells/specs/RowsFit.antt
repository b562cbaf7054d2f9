-- Rows of a table stay rows of it, as updates change them.
use Rattle.std.proofs.Common.{◌≡◌, Bool, true, false, cond, Option, Some, None, refl, sym, ap, subst, ◌∙◌}
use Rattle.std.specs.Option.{option_or}
use Rattle.std.specs.FinMap.{empty, get, get-empty, get-insert, get-remove, insert, remove}
use Rattle.cells.specs.CellOrder.{cell_cmp, cell_cmp-total, cell_eq}
use Rattle.cells.specs.Fitting.{IsRowOf}
use Rattle.cells.specs.SameKeys.{same_cells}
use Rattle.cells.specs.Values.{RowValue, Table}
use Rattle.cells.specs.declared.cell.Cell.{Cell}
use Rattle.cells.specs.Tables.{AreRowsOf, Rows, laid_over}

some_same : {A : Type 0} (x y : A) → Some x ≡ Some y → x ≡ y
some_same x y e = cc

pub rows_none : (t : Table) (rows : Rows) → rows ≡ empty → AreRowsOf t rows
rows_none t rows none = record {
  keyed = λ key row e. absurd (nothing key row e);
  fit = λ key row e. absurd (nothing key row e);
} where
  nothing : (key : Cell) (row : RowValue) → get rows key ≡ Some row → ⊥
  nothing key row e = let there = sym (get-empty {X = RowValue} cell_cmp key) ∙ ap (λ (r : Rows). get r key) (sym none) ∙ e in cc

-- of equal rows and tables
pub rows_same : (t u : Table) (old new : Rows) → u ≡ t → new ≡ old → AreRowsOf t old → AreRowsOf u new
rows_same t u old new same is rows = subst (λ (table : Table). AreRowsOf table new) (sym same) (subst (AreRowsOf t) (sym is) rows)

-- a row that is found was laid there, or it was there before
found_put : (P : RowValue → Type 0) (b : Bool) (row found : RowValue) (o : Option RowValue) → cond b (Some row) o ≡ Some found →
    (b ≡ true → P row) → (o ≡ Some found → P found) → P found
found_put P true row found o e here there = subst P (some_same row found e) (here refl)
found_put P false row found o e here there = there e

-- with one more row
pub rows_put : (t : Table) (old new : Rows) (row : RowValue) → new ≡ insert old row.key row → AreRowsOf t old → IsRowOf t row → AreRowsOf t new
rows_put t old new row is rows fits = record {
  keyed = λ key found e.
      found_put (λ r. r.key ≡ key) (cell_eq key row.key) row found (get old key) (look key found e)
      (λ same. sym (same_cells key row.key same)) (rows.keyed key found);
  fit = λ key found e. found_put (IsRowOf t) (cell_eq key row.key) row found (get old key) (look key found e) (λ same. fits) (rows.fit key found);
} where
  look : (key : Cell) (found : RowValue) → get new key ≡ Some found → cond (cell_eq key row.key) (Some row) (get old key) ≡ Some found
  look key found e = sym (get-insert cell_cmp-total old row.key row key) ∙ ap (λ (r : Rows). get r key) (sym is) ∙ e

found_left : (b : Bool) (found : RowValue) (o : Option RowValue) → cond b None o ≡ Some found → o ≡ Some found
found_left true found o e = absurd (cc)
found_left false found o e = e

-- with a key less
pub rows_remove : (t : Table) (old new : Rows) (key : Cell) → new ≡ remove old key → AreRowsOf t old → AreRowsOf t new
rows_remove t old new key is rows = record {
  keyed = λ at found e. rows.keyed at found (look at found e);
  fit = λ at found e. rows.fit at found (look at found e);
} where
  look : (at : Cell) (found : RowValue) → get new at ≡ Some found → get old at ≡ Some found
  look at found e =
      found_left (cell_eq at key) found (get old at) (sym (get-remove cell_cmp-total old key at) ∙ ap (λ (r : Rows). get r at) (sym is) ∙ e)

-- what puts, deletes and copies make of rows of a table are rows of it
pub ruleset rows_stay = (rows_none, rows_same, rows_put, rows_remove)

of_either : (P : RowValue → Type 0) (found : RowValue) (x y : Option RowValue) → option_or x y ≡ Some found → (x ≡ Some found → P found) → (y ≡ Some found → P found) → P found
of_either P found None y e later earlier = earlier e
of_either P found (Some x) y e later earlier = later e

-- with others laid over them
pub rows_over : (t : Table) (later old new : Rows) → ((q : Cell) → get (laid_over later old) q ≡ option_or (get later q) (get old q)) →
    new ≡ laid_over later old → AreRowsOf t later → AreRowsOf t old → AreRowsOf t new
rows_over t later old new stands is more rows = record {
  keyed = λ key found e. of_either (λ r. r.key ≡ key) found (get later key) (get old key) (look key found e) (more.keyed key found) (rows.keyed key found);
  fit = λ key found e. of_either (IsRowOf t) found (get later key) (get old key) (look key found e) (more.fit key found) (rows.fit key found);
} where
  look : (key : Cell) (found : RowValue) → get new key ≡ Some found → option_or (get later key) (get old key) ≡ Some found
  look key found e = sym (stands key) ∙ ap (λ (r : Rows). get r key) (sym is) ∙ e
