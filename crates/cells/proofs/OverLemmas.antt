-- Rows laid over others.
use Rattle.std.proofs.Common.{◌≡◌, ◌-◌, ◌≤◌, Bool, true, false, ◌&&◌, cond, Option, Some, None, List, [], ◌∷◌, ◌++◌, length, refl, ap, sym, subst, ◌∙◌, append_assoc, arith, T, is_some, is_eq, is_lt, Ordering, Less, Equal, Greater}
use Rattle.std.proofs.lemmas.List.{append-nil}
use Rattle.std.specs.Option.{option_or}
use Rattle.std.specs.FinMap.{contains_key, empty_of_len, entries, entries_sorted, find, get, get-empty, get-entries, get-from_entries, get-insert, get-remove, is_sorted, len, len-entries, len-remove, remove, same_map}
use Rattle.std.specs.FinMap.Entries.{below_all}
use Rattle.cells.specs.CellOrder.{cell_cmp, cell_cmp-total, cell_eq, cell_eq-equiv}
use Rattle.cells.specs.Laws.{table_rows_put}
use Rattle.cells.specs.SameKeys.{exact_cells, same_cells}
use Rattle.cells.specs.Tables.{Rows, keyed_rows, laid_over, table}
use Rattle.cells.specs.Updates.{Update, Put, puts, rows}
use Rattle.cells.specs.Values.{RowValue}
use Rattle.cells.specs.declared.cell.Cell.{Cell}
use mathlib.Core.Logic.{dite}
use native.Mathlib.Decide.{ℕ_discrete}

pick : (b : Bool) (row : RowValue) (x y : Option RowValue) → cond b (Some row) (option_or x y) ≡ option_or (cond b (Some row) x) y
pick true row x y = refl
pick false row x y = refl

-- a key is found in the entries before, or else in those behind
find_joined : (es fs : List (Cell × RowValue)) (q : Cell) → find cell_cmp q (es ++ fs) ≡ option_or (find cell_cmp q es) (find cell_cmp q fs)
find_joined [] fs q = refl
find_joined (e ∷ es) fs q =
    ap (cond (cell_eq q e.0) (Some e.1)) (find_joined es fs q) ∙ pick (cell_eq q e.0) e.1 (find cell_cmp q es) (find cell_cmp q fs)

-- at each key the later row stands, and where there is none, the earlier one
pub stands : (later earlier : Rows) (q : Cell) → get (laid_over later earlier) q ≡ option_or (get later q) (get earlier q)
stands later earlier q =
    get-from_entries cell_cmp-total (entries later ++ entries earlier) q
    ∙ find_joined (entries later) (entries earlier) q
    ∙ ap (λ o. option_or o (find cell_cmp q (entries earlier))) (sym (get-entries later q))
    ∙ ap (option_or (get later q)) (sym (get-entries earlier q))

-- the row of the key that these updates leave
abbrev left_at : List Update → Cell → Option RowValue
left_at us q = get (table (rows us)) q

-- the later updates' row where there is one, else the earlier ones'
abbrev After : Cell → List Update → List Update → Type 0
After q us vs = left_at (us ++ vs) q ≡ option_or (left_at vs q) (left_at us q)

left_at_put : (us : List Update) (row : RowValue) (q : Cell) → left_at (us ++ Put row ∷ []) q ≡ cond (cell_eq q row.key) (Some row) (left_at us q)
left_at_put us row q = ap (λ (m : Rows). get m q) (table_rows_put us row) ∙ get-insert cell_cmp-total (table (rows us)) row.key row q

left_at_none : (q : Cell) → left_at [] q ≡ None
left_at_none q = get-from_entries cell_cmp-total (keyed_rows []) q

one_more : (q : Cell) (us vs : List Update) (row : RowValue) → After q us vs → After q us (vs ++ Put row ∷ [])
one_more q us vs row so_far =
    ap (λ l. left_at l q) (sym (append_assoc us vs (Put row ∷ [])))
    ∙ left_at_put (us ++ vs) row q
    ∙ ap (cond (cell_eq q row.key) (Some row)) so_far
    ∙ pick (cell_eq q row.key) row (left_at vs q) (left_at us q)
    ∙ ap (λ o. option_or o (left_at us q)) (sym (left_at_put vs row q))

all_more : (rs : List RowValue) (q : Cell) (us vs : List Update) → After q us vs → After q us (vs ++ puts rs)
all_more [] q us vs so_far = subst (After q us) (sym (append-nil vs)) so_far
all_more (row ∷ rs) q us vs so_far =
    subst (After q us) (append_assoc vs (Put row ∷ []) (puts rs)) (all_more rs q us (vs ++ Put row ∷ []) (one_more q us vs row so_far))

after : (us : List Update) (rs : List RowValue) (q : Cell) → After q us (puts rs)
after us rs q = all_more rs q us [] (ap (λ l. left_at l q) (append-nil us) ∙ ap (λ o. option_or o (left_at us q)) (sym (left_at_none q)))

-- rows that are put lie over those that earlier updates leave
pub over : (us : List Update) (rs : List RowValue) → table (rows (us ++ puts rs)) ≡ laid_over (table (rows (puts rs))) (table (rows us))
over us rs = same_map cell_cmp-total exact_cells _ _ (λ q. after us rs q ∙ sym (stands (table (rows (puts rs))) (table (rows us)) q))

-- ---- no fewer keys
both_true : (a b : Bool) → T (a && b) → T a × T b
both_true true b h = (tt, h)
both_true false b h = absurd h

not_found_here : (r : Ordering) (row : RowValue) (behind : Option RowValue) → T (is_lt r) → behind ≡ None → cond (is_eq r) (Some row) behind ≡ None
not_found_here Less row behind below none = none
not_found_here Equal row behind below none = absurd below
not_found_here Greater row behind below none = absurd below

-- a key below all others is not among them
none_above : (q : Cell) (es : List (Cell × RowValue)) → T (below_all cell_cmp q es) → find cell_cmp q es ≡ None
none_above q [] below = refl
none_above q (e ∷ es) below =
    let both = both_true (is_lt (cell_cmp q e.0)) (below_all cell_cmp q es) below in
    not_found_here (cell_cmp q e.0) e.1 (find cell_cmp q es) both.0 (none_above q es both.1)

-- what is found behind the first key is another key
is_other : (q : Cell) (e : Cell × RowValue) (es : List (Cell × RowValue)) → T (below_all cell_cmp e.0 es) → is_some (find cell_cmp q es) ≡ true → cell_eq q e.0 ≡ false
is_other q e es below found = of_either (cell_eq q e.0) refl where
  of_either : (same : Bool) → cell_eq q e.0 ≡ same → same ≡ false
  of_either true is =
      let none = subst (λ k. find cell_cmp k es ≡ None) (sym (same_cells q e.0 is)) (none_above e.0 es below) in
      absurd (subst T (sym (sym (ap is_some none) ∙ found)) tt)
  of_either false is = refl

still_found : (same : Bool) (row : RowValue) (o : Option RowValue) → is_some o ≡ true → is_some (cond same (Some row) o) ≡ true
still_found true row o found = refl
still_found false row o found = found

-- a map that has a key has an entry
some_entry : (m : Rows) (q : Cell) → contains_key m q ≡ true → 1 ≤ len m
some_entry m q there = dite (ℕ_discrete (len m) 0)
    (λ none.
    let missing : get m q ≡ None = ap (λ (n : Rows). get n q) (empty_of_len m none) ∙ get-empty cell_cmp q in
    absurd (subst T (sym there ∙ ap is_some missing) tt))
    (λ some. omega arith)

-- a map has no fewer entries than different keys that it has
keys_within : (es : List (Cell × RowValue)) (m : Rows) → T (is_sorted cell_cmp es) → ((q : Cell) → is_some (find cell_cmp q es) ≡ true → contains_key m q ≡ true) → length es ≤ len m
keys_within [] m sorted held = omega arith
keys_within (e ∷ es) m sorted held =
    let both = both_true (below_all cell_cmp e.0 es) (is_sorted cell_cmp es) sorted in
    let there : contains_key m e.0 ≡ true = held e.0 (ap (λ b. is_some (cond b (Some e.1) (find cell_cmp e.0 es))) (cell_eq-equiv.refl e.0)) in
    let fewer : len (remove m e.0) ≡ len m - 1 = len-remove cell_cmp-total m e.0 ∙ ap (λ b. cond b (len m - 1) (len m)) there in
    let rest = keys_within es (remove m e.0) both.1 (λ q found.
    ap is_some (get-remove cell_cmp-total m e.0 q ∙ ap (λ b. cond b None (get m q)) (is_other q e es both.0 found))
    ∙ held q (still_found (cell_eq q e.0) e.1 (find cell_cmp q es) found)) in
    let some = some_entry m e.0 there in
    omega (arith, rest, fewer, some)

first_found : (x y : Option RowValue) → is_some x ≡ true → is_some (option_or x y) ≡ true
first_found (Some x) y found = refl
first_found None y found = absurd (subst T (sym found) tt)

-- laid over others, rows are no fewer
pub no_fewer : (later earlier : Rows) → len later ≤ len (laid_over later earlier)
no_fewer later earlier =
    rw (len-entries later) (keys_within (entries later) (laid_over later earlier) (entries_sorted later) (λ q found.
    ap is_some (stands later earlier q) ∙ first_found (get later q) (get earlier q) (ap is_some (get-entries later q) ∙ found)))
