-- What tries hold, as rows are put.
use Rattle.std.proofs.Common.{◌≡◌, List, [], ◌∷◌, ◌++◌, refl, ap, sym, subst, ◌∙◌, append_assoc}
use Rattle.std.proofs.lemmas.List.{append-nil}
use Rattle.std.specs.List.{AllByRecursion}
use Rattle.std.specs.FinMap.{empty, insert}
use Rattle.cells.specs.Fitting.{IsRowOf}
use Rattle.cells.specs.RowsFit.{rows_none, rows_put}
use Rattle.cells.specs.Tables.{AreRowsOf, Rows, keyed_rows, table}
use Rattle.cells.specs.Updates.{Put, Update, puts, rows}
use Rattle.cells.specs.Values.{RowValue, Table}
use Rattle.loader.specs.Loads.{Held, HoldsPuts}
use Rattle.loader.specs.Tries.{HoldsAll, inserted}

-- the law of a put: it lays its row over what the updates before it leave
abbrev pub LaysRows : Type 0
LaysRows = (us : List Update) (row : RowValue) → table (rows (us ++ Put row ∷ [])) ≡ insert (table (rows us)) row.key row

-- that is what puts leave
pub put_all : LaysRows → (us : List Update) (rs : List RowValue) → inserted (table (rows us)) (keyed_rows rs) ≡ table (rows (us ++ puts rs))
put_all put us [] = ap (λ l. table (rows l)) (sym (append-nil us))
put_all put us (row ∷ rs) =
    ap (λ (m : Rows). inserted m (keyed_rows rs)) (sym (put us row)) ∙ put_all put (us ++ Put row ∷ []) rs
    ∙ ap (λ l. table (rows l)) (append_assoc us (Put row ∷ []) (puts rs))

all_fit : (t : Table) (m : Rows) (rs : List RowValue) → AreRowsOf t m → AllByRecursion (IsRowOf t) rs → AreRowsOf t (inserted m (keyed_rows rs))
all_fit t m [] fit more = fit
all_fit t m (row ∷ rs) fit more = all_fit t (insert m row.key row) rs (rows_put t m (insert m row.key row) row refl fit more.0) more.1

-- rows were put one after another
pub holds_all : (t : Table) → LaysRows → (rs : List RowValue) (held : Held) → AllByRecursion (IsRowOf t) rs → HoldsAll (keyed_rows rs) held → HoldsPuts t rs held
holds_all t put rs held fit is = record {
  map = is ∙ put_all put [] rs;
  fit = subst (AreRowsOf t) (sym is) (all_fit t empty rs (rows_none t empty refl) fit);
}
