-- The cells that a field spells, and the row that the fields of a record spell.
use Rattle.std.proofs.Common.{refl, ◌+◌, ◌≡◌, ◌≢◌, ◌<◌, ◌≤◌, ap, subst, sym, ◌∙◌, ◌⊎◌, inl, inr, arith, append_assoc, length-append, ℕ, zero, suc, List, [], ◌∷◌, ◌++◌, drop, get_or, length, map, slice_index_or, take, IsUtf8, Some, None, Err, Option, option_and_then, option_map, Bor}
use Rattle.std.proofs.lemmas.Bool.{cases_Bool}
use Rattle.std.proofs.lemmas.List.{append-nil, drop_all, drop_more, length-drop}
use Rattle.std.proofs.lemmas.Str.{IsUtf8-from_is_utf8, is_utf8-from_IsUtf8}
use Rattle.std.specs.Str.{is_utf8}
use Rattle.cells.specs.declared.cell.Cell.{Cell}
use Rattle.cells.specs.declared.cell.Cell.TheVariants as cell
use Rattle.cells.specs.declared.schema.Column.{Column}
use Rattle.cells.specs.declared.schema.ColumnType.{ColumnType}
use Rattle.cells.specs.Records.{cell_of, cells_of, keyed, row_of, text_cell}
use Rattle.cells.specs.RowReading.{HasRead, RowStart}
use Rattle.cells.specs.declared.refused.Refused.{Refused}
use Rattle.cells.specs.declared.refused.Refused.TheVariants.{BadRecord, OutOfMemory}
use Rattle.cells.specs.Refusals.{Answers}
use Rattle.cells.specs.Values.{RowValue, Table}

-- a field that is not empty is a cell's text, or no text
pub cell_of_text : (kind : ColumnType) (bs : List ℕ) → length bs ≢ 0 → IsUtf8 bs → cell_of kind bs ≡ text_cell kind bs
cell_of_text kind [] h u = absurd (h refl)
cell_of_text kind (b ∷ bs) h u = rw (is_utf8-from_IsUtf8 (b ∷ bs) u) refl

pub cell_of_other : (kind : ColumnType) (bs : List ℕ) → length bs ≢ 0 → ¬ (IsUtf8 bs) → cell_of kind bs ≡ None
cell_of_other kind [] h u = absurd (h refl)
cell_of_other kind (b ∷ bs) h u = elim (cases_Bool (is_utf8 (b ∷ bs))) [
  | inl y ↦ absurd (u (IsUtf8-from_is_utf8 (b ∷ bs) y))
  | inr n ↦ rw n refl
]

-- ---- what a row that is read field by field has read

-- all columns have their cells
pub all_read : (fields : List (List ℕ)) (start : RowStart) → HasRead fields start → length start.table.columns ≤ length start.cells → cells_of start.table.columns fields ≡ Some start.cells
all_read fields start read full =
    ap (cells_of start.table.columns) (sym (append-nil fields)) ∙ read.spelt []
    ∙ ap (λ columns. option_map (λ rest. start.cells ++ rest) (cells_of columns [])) (drop_all (length start.cells) start.table.columns full)
    ∙ ap Some (append-nil start.cells)

-- a column has none yet
pub too_few : (fields : List (List ℕ)) (start : RowStart) → HasRead fields start → length start.cells < length start.table.columns → cells_of start.table.columns fields ≡ None
too_few fields start read few =
    ap (cells_of start.table.columns) (sym (append-nil fields)) ∙ read.spelt []
    ∙ ap (option_map (λ rest. start.cells ++ rest)) (none_left (drop (length start.cells) start.table.columns) left) where
      left : 0 < length (drop (length start.cells) start.table.columns)
      left = let dropped = length-drop (length start.cells) start.table.columns in omega (arith, dropped, few)

      none_left : (columns : List Column) → 0 < length columns → cells_of columns [] ≡ None
      none_left [] some = absurd (omega arith)
      none_left (c ∷ columns) some = refl

-- ---- the field that is read next

-- nothing is read yet
pub none_read : (start : RowStart) → start.cells ≡ [] → HasRead [] start
none_read start none = record { spelt = λ more. rw none (same (cells_of start.table.columns more)) } where
  same : (o : Option (List Cell)) → o ≡ option_map (λ rest. [] ++ rest) o
  same None = refl
  same (Some xs) = refl

module _ (start : RowStart) (t : Table) (xs : List Cell) (is : record { table = t; cells = xs } ≡ start) (fields : List (List ℕ)) (f : List ℕ) (read : HasRead fields start) where
  had : HasRead fields (record { table = t; cells = xs })
  had = subst (HasRead fields) (sym is) read

  at_start : (more : List (List ℕ)) → row_of t (fields ++ f ∷ more) ≡ None → row_of start.table (fields ++ f ∷ more) ≡ None
  at_start more none = subst (λ (s : RowStart). row_of s.table (fields ++ f ∷ more) ≡ None) is none

  -- every column has its cell
  pub read_past : (more : List (List ℕ)) → length t.columns ≤ length xs → row_of start.table (fields ++ f ∷ more) ≡ None
  read_past more full =
      let spelt = had.spelt (f ∷ more) ∙ ap (λ columns. option_map (λ rest. xs ++ rest) (cells_of columns (f ∷ more))) (drop_all (length xs) t.columns full) in
      at_start more (ap (option_and_then (λ ys. keyed (slice_index_or ys t.key cell.Null) ys)) spelt)

  module _ (n : ℕ) (c : Column) (len : length xs ≡ n) (inside : n < length t.columns) (at : c ≡ get_or t.columns n c) where
    spelt_next : (more : List (List ℕ)) (o : Option Cell) → cell_of c.kind f ≡ o → cells_of t.columns (fields ++ f ∷ more)
        ≡ option_map (λ rest. xs ++ rest) (option_and_then (λ x. option_map (λ ys. x ∷ ys) (cells_of (drop (n + 1) t.columns) more)) o)
    spelt_next more o is_cell =
        had.spelt (f ∷ more)
        ∙ ap (λ columns. option_map (λ rest. xs ++ rest) (cells_of columns (f ∷ more)))
        (ap (λ k. drop k t.columns) len ∙ drop_more t.columns n c inside ∙ ap (λ (d : Column). d ∷ drop (n + 1) t.columns) (sym at))
        ∙ ap (λ p. option_map (λ rest. xs ++ rest) (option_and_then (λ x. option_map (λ ys. x ∷ ys) (cells_of (drop (n + 1) t.columns) more)) p)) is_cell

    -- the field spells no cell of its column
    pub read_bad : (more : List (List ℕ)) → cell_of c.kind f ≡ None → row_of start.table (fields ++ f ∷ more) ≡ None
    read_bad more none = at_start more (ap (option_and_then (λ ys. keyed (slice_index_or ys t.key cell.Null) ys)) (spelt_next more None none))

    -- it spells the next cell
    pub read_more : (x : Cell) (ys : List Cell) → cell_of c.kind f ≡ Some x → ys ≡ xs ++ x ∷ [] → HasRead (fields ++ f ∷ []) (record { table = t; cells = ys })
    read_more x ys some new = record {
      spelt = λ more.
          ap (cells_of t.columns) (append_assoc fields (f ∷ []) more) ∙ spelt_next more (Some x) some ∙ joined (cells_of (drop (n + 1) t.columns) more)
          ∙ ap (λ zs. option_map (λ rest. zs ++ rest) (cells_of (drop (n + 1) t.columns) more)) (sym new)
          ∙ ap (λ k. option_map (λ rest. ys ++ rest) (cells_of (drop k t.columns) more)) longer;
    } where
      joined : (o : Option (List Cell)) → option_map (λ rest. xs ++ rest) (option_map (λ rest. x ∷ rest) o) ≡ option_map (λ rest. (xs ++ x ∷ []) ++ rest) o
      joined None = refl
      joined (Some rest) = ap Some (sym (append_assoc xs (x ∷ []) rest))

      longer : n + 1 ≡ length ys
      longer = let both = ap length new ∙ length-append xs (x ∷ []) in omega (arith, both, len)

pub no_cells : (t : Table) (fs : List (List ℕ)) → cells_of t.columns fs ≡ None → row_of t fs ≡ None
no_cells t fs none = rw none refl

pub null_key : (t : Table) (fs : List (List ℕ)) (xs : List Cell) → cells_of t.columns fs ≡ Some xs → slice_index_or xs t.key cell.Null ≡ cell.Null → row_of t fs ≡ None
null_key t fs xs spelt null = rw (spelt, null) refl

-- at a key that is no NULL the cells are a row
keyed_cells : (x : Cell) (xs : List Cell) → x ≢ cell.Null → keyed x xs ≡ Some (record { key = x; cells = xs })
keyed_cells cell.Null xs h = absurd (h refl)
keyed_cells (cell.Int n) xs h = refl
keyed_cells (cell.Text t) xs h = refl

-- the cells are there, and no NULL stands at the key
row_at : (t : Table) (fs : List (List ℕ)) (xs : List Cell) (key : ℕ) → cells_of t.columns fs ≡ Some xs → key ≡ t.key
    → slice_index_or xs key cell.Null ≢ cell.Null → row_of t fs ≡ Some (record { key = slice_index_or xs key cell.Null; cells = xs })
row_at t fs xs key spelt place full = rw (spelt, ← place) (keyed_cells (slice_index_or xs key cell.Null) xs full)

-- ---- a row that is finished, whose table, cells and key are these

module _ (start : RowStart) (t : Table) (xs : List Cell) (key : ℕ) (is : record { table = t; cells = xs } ≡ start) (place : key ≡ t.key)
    (fields : List (List ℕ)) (read : HasRead fields start) where
  same : HasRead fields (record { table = t; cells = xs })
  same = subst (HasRead fields) (sym is) read

  pub finished_early : length xs < length t.columns → row_of start.table fields ≡ None
  finished_early few = subst (λ (s : RowStart). row_of s.table fields ≡ None) is (no_cells t fields (too_few fields (record { table = t; cells = xs }) same few))

  module _ (full : length t.columns ≤ length xs) where
    pub finished_null : slice_index_or xs key cell.Null ≡ cell.Null → row_of start.table fields ≡ None
    finished_null null =
        subst (λ (s : RowStart). row_of s.table fields ≡ None) is
        (null_key t fields xs (all_read fields (record { table = t; cells = xs }) same full) (ap (λ k. slice_index_or xs k cell.Null) (sym place) ∙ null))

    pub finished : slice_index_or xs key cell.Null ≢ cell.Null → row_of start.table fields ≡ Some (record { key = slice_index_or xs key cell.Null; cells = xs })
    finished some =
        subst (λ (s : RowStart). row_of s.table fields ≡ Some (record { key = slice_index_or xs key cell.Null; cells = xs })) is
        (row_at t fields xs key (all_read fields (record { table = t; cells = xs }) same full) place some)

-- ---- a row that a list of fields is read into

abbrev texts : List (Bor (List ℕ)) → List (List ℕ)
texts fields = map (λ f. f.now) fields

parted : (fields : List (Bor (List ℕ))) (place : ℕ) (d : Bor (List ℕ)) → place < length fields →
    texts (take place fields) ++ (get_or fields place d).now ∷ texts (drop (suc place) fields) ≡ texts fields
parted [] place d inside = absurd (omega arith)
parted (f ∷ fields) zero d inside = refl
parted (f ∷ fields) (suc place) d inside = ap (λ fs. f.now ∷ fs) (parted fields place d (omega arith))

-- a field that no row goes on with refuses the record
pub refused_field : (t : Table) (fields : List (Bor (List ℕ))) (place : ℕ) (d : Bor (List ℕ)) (start : RowStart) (e : Refused) → start.table ≡ t → place < length fields →
    HasRead (texts (take place fields)) start → (e ≡ BadRecord) ⊎ (e ≡ OutOfMemory) →
    (e ≡ BadRecord → (fs more : List (List ℕ)) → HasRead fs start → row_of start.table (fs ++ (get_or fields place d).now ∷ more) ≡ None) →
    Answers {T = RowValue} BadRecord (row_of t (texts fields)) (Err e)
refused_field t fields place d start e of_table inside read (inr memory) bad = inl memory
refused_field t fields place d start e of_table inside read (inl is) bad =
    inr (
      is,
      sym (ap (λ (u : Table). row_of u (texts fields)) of_table) ∙ ap (row_of start.table) (sym (parted fields place d inside))
          ∙ bad is (texts (take place fields)) (texts (drop (suc place) fields)) read,
    )
