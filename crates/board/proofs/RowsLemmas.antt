-- The rows of an edition as a list.
use Rattle.std.proofs.Common.{◌≡◌, Bool, true, false, cond, Some, List, [], ◌∷◌, ◌++◌, refl, sym, ap, ◌∙◌, subst, T}
use Rattle.std.specs.FinMap.{entries, find, get, get-empty, get-entries, get-insert, same_map}
use Rattle.cells.specs.CellOrder.{cell_cmp, cell_cmp-total, cell_eq}
use Rattle.cells.specs.Laws.{table_rows_put}
use Rattle.cells.specs.SameKeys.{exact_cells, same_cells}
use Rattle.cells.specs.Tables.{AreRowsOf, Rows, table}
use Rattle.cells.specs.Updates.{Put, Update, rows}
use Rattle.cells.specs.Values.{RowValue, Table}
use Rattle.cells.specs.declared.cell.Cell.{Cell}
use Rattle.board.specs.Editions.{AreListed}

-- one more put, of a row that stands at its own key
abbrev with_put : (own : Bool) → RowValue → List Update → List Update
with_put true row us = us ++ Put row ∷ []
with_put false row us = us

-- puts of the rows, the last one first
abbrev puts_of : List (Cell × RowValue) → List Update
puts_of [] = []
puts_of (e ∷ es) = with_put (cell_eq e.1.key e.0) e.1 (puts_of es)

-- the first entry of the key is what the puts leave there, where it is a row of that key
module _ (q : Cell) where
  step : (own here : Bool) (e : Cell × RowValue) (es : List (Cell × RowValue)) → cell_eq e.1.key e.0 ≡ own → cell_eq q e.0 ≡ here
      → ((r : RowValue) → cond here (Some e.1) (find cell_cmp q es) ≡ Some r → r.key ≡ q)
      → (((r : RowValue) → find cell_cmp q es ≡ Some r → r.key ≡ q) → get (table (rows (puts_of es))) q ≡ find cell_cmp q es)
      → get (table (rows (with_put own e.1 (puts_of es)))) q ≡ cond here (Some e.1) (find cell_cmp q es)
  step true here e es own is keyed ih =
      let same : e.1.key ≡ e.0 = same_cells e.1.key e.0 own in
      ap (λ (m : Rows). get m q) (table_rows_put (puts_of es) e.1)
      ∙ get-insert cell_cmp-total (table (rows (puts_of es))) e.1.key e.1 q
      ∙ ap (λ (b : Bool). cond b (Some e.1) (get (table (rows (puts_of es))) q)) (ap (λ (k : Cell). cell_eq q k) same ∙ is)
      ∙ at here keyed
    where
      at : (b : Bool) → ((r : RowValue) → cond b (Some e.1) (find cell_cmp q es) ≡ Some r → r.key ≡ q) → cond b (Some e.1) (get (table (rows (puts_of es))) q) ≡ cond b (Some e.1) (find cell_cmp q es)
      at true k = refl
      at false k = ih k
  step false true e es own is keyed ih =
      let e1 : cell_eq e.1.key e.0 ≡ true = ap (λ (k : Cell). cell_eq k e.0) (keyed e.1 refl) ∙ is in
      absurd (subst T (sym e1 ∙ own) tt)
  step false false e es own is keyed ih = ih keyed

  first_stands : (es : List (Cell × RowValue)) → ((r : RowValue) → find cell_cmp q es ≡ Some r → r.key ≡ q) → get (table (rows (puts_of es))) q ≡ find cell_cmp q es
  first_stands [] keyed = get-empty {X = RowValue} cell_cmp q
  first_stands (e ∷ es) keyed = step (cell_eq e.1.key e.0) (cell_eq q e.0) e es refl refl keyed (first_stands es)

-- rows that each stand at their own key are those of a list that updates leave
pub listed : (t : Table) (rs : Rows) → AreRowsOf t rs → AreListed rs
listed t rs are = record {
  list = rows (puts_of (entries rs));
  left = record { updates = puts_of (entries rs); is = refl };
  is = same_map cell_cmp-total exact_cells rs (table (rows (puts_of (entries rs)))) (λ q.
      get-entries rs q
      ∙ sym (first_stands q (entries rs) (λ r e. are.keyed q r (get-entries rs q ∙ e))));
}
