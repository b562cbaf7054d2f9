-- The rows that updates leave are a map from their keys.
use Rattle.std.specs.Prelude.{T}
use Rattle.std.proofs.Common.{◌≡◌, ◌+◌, Bool, true, false, not, cond, Option, Some, None, List, [], ◌∷◌, ◌++◌, ◌||◌, filter, length, refl, ap, ap₂, subst, sym, ◌∙◌, add-one}
use Rattle.std.proofs.lemmas.List.{append-nil}
use Rattle.std.proofs.lemmas.List.Folds.{list_any-append}
use Rattle.std.specs.Prelude.{is_some}
use Rattle.std.specs.FinMap.{insert, remove, len, find, same_map, get-from_entries, get-insert, get-remove, len-insert, len-empty}
use Rattle.cells.specs.CellOrder.{cell_cmp, cell_cmp-total, cell_eq, cell_eq-equiv}
use Rattle.cells.specs.SameKeys.{exact_cells}
use Rattle.cells.specs.Tables.{keyed_rows, table}
use Rattle.cells.specs.Updates.{Update, Put, Delete, key_of, rows, touches, without, AreLeft}
use Rattle.cells.specs.Values.{RowValue}
use Rattle.cells.specs.declared.cell.Cell.{Cell}

-- a row stays where no later update has its key, which is seen among the old ones or is the new one's
kept : (seen same : Bool) (p : RowValue → Bool) (r : RowValue) (rest new : List RowValue) → p r ≡ not same →
    cond (seen || same) (filter p rest ++ new) (r ∷ (filter p rest ++ new)) ≡ filter p (cond seen rest (r ∷ rest)) ++ new
kept true same p r rest new e = refl
kept false true p r rest new e = ap (λ b. cond b (r ∷ filter p rest) (filter p rest) ++ new) (sym e)
kept false false p r rest new e = ap (λ b. cond b (r ∷ filter p rest) (filter p rest) ++ new) (sym e)

or_false : (b : Bool) → b || false ≡ b
or_false true = refl
or_false false = refl

-- after one more update the old rows of other keys stand, and then the new row
rows_more : (us : List Update) (u : Update) → rows (us ++ u ∷ []) ≡ without (key_of u) (rows us) ++ rows (u ∷ [])
rows_more [] u = refl
rows_more (Put r ∷ us) u =
    ap₂ (λ (b : Bool) (rest : List RowValue). cond b rest (r ∷ rest)) (list_any-append (λ v. cell_eq (key_of v) r.key) us (u ∷ [])) (rows_more us u)
    ∙ kept (touches r.key us) (cell_eq (key_of u) r.key || false) (λ s. not (cell_eq s.key (key_of u))) r (rows us) (rows (u ∷ []))
    (ap not (cell_eq-equiv.symm r.key (key_of u) ∙ sym (or_false (cell_eq (key_of u) r.key))))
rows_more (Delete key ∷ us) u = rows_more us u

-- a put takes out the row of its key, and its own row stands last
pub rows_put : (us : List Update) (row : RowValue) → rows (us ++ Put row ∷ []) ≡ without row.key (rows us) ++ row ∷ []
rows_put us row = rows_more us (Put row)

-- a delete takes out the row of its key
pub rows_delete : (us : List Update) (key : Cell) → rows (us ++ Delete key ∷ []) ≡ without key (rows us)
rows_delete us key = rows_more us (Delete key) ∙ append-nil (without key (rows us))

twice : (b : Bool) (u v f : Option RowValue) → cond b u f ≡ cond b u (cond b v f)
twice true u v f = refl
twice false u v f = refl

-- a row of the same key is hidden
hidden : (q k j : Cell) (u v f : Option RowValue) → cell_eq j k ≡ true → cond (cell_eq q k) u f ≡ cond (cell_eq q k) u (cond (cell_eq q j) v f)
hidden q k j u v f e =
    let same : cell_eq q j ≡ cell_eq q k = cell_eq-equiv.symm q j ∙ cell_eq-equiv.congr j k q e ∙ cell_eq-equiv.symm k q in
    twice (cell_eq q k) u v f ∙ ap (λ b. cond (cell_eq q k) u (cond b v f)) (sym same)

swapped : (a b : Bool) (u v f : Option RowValue) → (a ≡ true → b ≡ false) → cond a v (cond b u f) ≡ cond b u (cond a v f)
swapped true b u v f h = ap (λ c. cond c u v) (sym (h refl))
swapped false b u v f h = refl

-- rows of two keys do not hide each other
apart : (q k j : Cell) (u v f : Option RowValue) → cell_eq j k ≡ false → cond (cell_eq q j) v (cond (cell_eq q k) u f) ≡ cond (cell_eq q k) u (cond (cell_eq q j) v f)
apart q k j u v f e = swapped (cell_eq q j) (cell_eq q k) u v f (λ same. cell_eq-equiv.congr q j k same ∙ e)

find_step : (same : Bool) (q k : Cell) (x : RowValue) (w new : List RowValue) (u f : Option RowValue) → cell_eq x.key k ≡ same →
    find cell_cmp q (keyed_rows (w ++ new)) ≡ cond (cell_eq q k) u f →
    find cell_cmp q (keyed_rows (cond (not same) (x ∷ w) w ++ new)) ≡ cond (cell_eq q k) u (cond (cell_eq q x.key) (Some x) f)
find_step true q k x w new u f e ih = ih ∙ hidden q k x.key u (Some x) f e
find_step false q k x w new u f e ih = ap (λ o. cond (cell_eq q x.key) (Some x) o) ih ∙ apart q k x.key u (Some x) f e

-- at other keys than k a row is what it was, and at k it is what the new rows have
find_more : (d : List RowValue) (q k : Cell) (new : List RowValue) (u : Option RowValue) → find cell_cmp q (keyed_rows new) ≡ cond (cell_eq q k) u None →
    find cell_cmp q (keyed_rows (without k d ++ new)) ≡ cond (cell_eq q k) u (find cell_cmp q (keyed_rows d))
find_more [] q k new u h = h
find_more (x ∷ xs) q k new u h = find_step (cell_eq x.key k) q k x (without k xs) new u (find cell_cmp q (keyed_rows xs)) refl (find_more xs q k new u h)

table_put : (d : List RowValue) (row : RowValue) → table (without row.key d ++ row ∷ []) ≡ insert (table d) row.key row
table_put d row = same_map cell_cmp-total exact_cells _ _ (λ q.
    get-from_entries cell_cmp-total (keyed_rows (without row.key d ++ row ∷ [])) q
    ∙ find_more d q row.key (row ∷ []) (Some row) refl
    ∙ sym (get-insert cell_cmp-total (table d) row.key row q ∙ ap (cond (cell_eq q row.key) (Some row)) (get-from_entries cell_cmp-total (keyed_rows d) q)))

nothing : (b : Bool) (n : Option RowValue) → n ≡ cond b n n
nothing true n = refl
nothing false n = refl

removed_more : (d : List RowValue) (key : Cell) → table (without key d ++ []) ≡ remove (table d) key
removed_more d key = same_map cell_cmp-total exact_cells _ _ (λ q.
    get-from_entries cell_cmp-total (keyed_rows (without key d ++ [])) q
    ∙ find_more d q key [] None (nothing (cell_eq q key) None)
    ∙ sym (get-remove cell_cmp-total (table d) key q ∙ ap (cond (cell_eq q key) None) (get-from_entries cell_cmp-total (keyed_rows d) q)))

-- a put lays its row over the map
pub table_rows_put : (us : List Update) (row : RowValue) → table (rows (us ++ Put row ∷ [])) ≡ insert (table (rows us)) row.key row
table_rows_put us row = ap table (rows_put us row) ∙ table_put (rows us) row

-- a delete takes its key out of the map
pub table_rows_delete : (us : List Update) (key : Cell) → table (rows (us ++ Delete key ∷ [])) ≡ remove (table (rows us)) key
table_rows_delete us key = ap table (rows_delete us key ∙ sym (append-nil (without key (rows us)))) ∙ removed_more (rows us) key

both_false : (a b : Bool) → (a || b) ≡ false → (a ≡ false) × (b ≡ false)
both_false true b e = absurd (subst T e tt)
both_false false b e = (refl, e)

untouched_step : (touched : Bool) (r : RowValue) (k : Cell) (rs : List RowValue) → cell_eq r.key k ≡ false → find cell_cmp k (keyed_rows rs) ≡ None →
    find cell_cmp k (keyed_rows (cond touched rs (r ∷ rs))) ≡ None
untouched_step true r k rs e ih = ih
untouched_step false r k rs e ih = ap (λ b. cond b (Some r) (find cell_cmp k (keyed_rows rs))) (cell_eq-equiv.symm k r.key ∙ e) ∙ ih

-- a key that no update has is in no row
untouched : (us : List Update) (k : Cell) → touches k us ≡ false → find cell_cmp k (keyed_rows (rows us)) ≡ None
untouched [] k e = refl
untouched (Put r ∷ us) k e =
    let p = both_false (cell_eq r.key k) (touches k us) e in
    untouched_step (touches r.key us) r k (rows us) p.0 (untouched us k p.1)
untouched (Delete j ∷ us) k e = untouched us k (both_false (cell_eq j k) (touches k us) e).1

length_step : (touched : Bool) (r : RowValue) (rs : List RowValue) → (touched ≡ false → find cell_cmp r.key (keyed_rows rs) ≡ None) → len (table rs) ≡ length rs →
    len (table (cond touched rs (r ∷ rs))) ≡ length (cond touched rs (r ∷ rs))
length_step true r rs h ih = ih
length_step false r rs h ih =
    len-insert cell_cmp-total (table rs) r.key r
    ∙ ap (λ o. cond (is_some o) (len (table rs)) (len (table rs) + 1)) (get-from_entries cell_cmp-total (keyed_rows rs) r.key ∙ h refl)
    ∙ ap (λ n. n + 1) ih ∙ add-one (length rs)

-- no key comes twice: the map has as many as there are rows
pub len_rows : (us : List Update) → len (table (rows us)) ≡ length (rows us)
len_rows [] = len-empty cell_cmp RowValue
len_rows (Put r ∷ us) = length_step (touches r.key us) r (rows us) (untouched us r.key) (len_rows us)
len_rows (Delete k ∷ us) = len_rows us

-- so it is with any rows that some updates leave
pub len_left : (rs : List RowValue) → AreLeft rs → len (table rs) ≡ length rs
len_left rs left = subst (λ (held : List RowValue). len (table held) ≡ length held) (sym left.is) (len_rows left.updates)
