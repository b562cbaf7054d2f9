-- Rows put into columns, column by column.
use Rattle.std.specs.Prelude.{◌≡◌, ℕ, zero, suc, ◌+◌, ◌<◌, ◌≤◌, ◌==◌, ◌||◌, Bool, true, false, List, [], ◌∷◌, ◌++◌, length, set, take, refl, ⊤}
use Rattle.std.specs.List.{AllByRecursion}
use Rattle.std.proofs.Common.{get_or, ap, ap₂, sym, ◌∙◌, subst, arith}
use Rattle.std.proofs.lemmas.List.{append_assoc, append-nil, map-append, take_more}
use Rattle.cells.specs.Values.{RowValue}
use Rattle.cells.specs.declared.cell.Cell.{Cell}
use Rattle.cells.specs.declared.cell.Cell.TheVariants.{Null}
use Rattle.columns.specs.Coding.{AddsColumn, Puts, PutsAt, PutsFor, TakesRow, no_column}
use Rattle.columns.specs.Columns.{ColumnValue, ColumnsValue, HaveAll, Hold, cells_at, cells_of, has, rows_of}
use Rattle.trie.specs.Walks.{TakesAll}
use Rattle.columns.proofs.ColumnsLemmas.{puts_both}

-- the column has the rows' cells of its index
abbrev pub IsColumn : List RowValue → ℕ × ColumnValue → Type 0
IsColumn rows c = cells_of c.1 ≡ cells_at c.0 rows

abbrev pub is_of : ℕ → ℕ × ColumnValue → Bool
is_of index c = c.0 == index

pub all_push : {X : Type 0} (P : X → Type 0) (xs : List X) (x : X) → AllByRecursion P xs → P x → AllByRecursion P (xs ++ x ∷ [])
all_push P [] x all one = (one, tt)
all_push P (y ∷ xs) x all one = (all.0, all_push P xs x all.1 one)

-- ---- a column more
pub has_push : (columns : ColumnsValue) (c : ℕ × ColumnValue) (index : ℕ) → has (columns ++ c ∷ []) index ≡ (has columns index || (c.0 == index))
has_push [] c index = go (c.0 == index)
  where
    go : (b : Bool) → (b || false) ≡ b
    go true = refl
    go false = refl
has_push (x ∷ columns) c index = go (x.0 == index) (has_push columns c index)
  where
    go : (b : Bool) → has (columns ++ c ∷ []) index ≡ (has columns index || (c.0 == index)) → (b || has (columns ++ c ∷ []) index) ≡ ((b || has columns index) || (c.0 == index))
    go true e = refl
    go false e = e

-- ---- cells for each column
module _ (more : ℕ → List Cell) where
  -- they came behind the first i columns, and no other has changed
  abbrev pub GoneOn : ℕ → ColumnsValue → ColumnsValue → Type 0
  GoneOn i [] [] = ⊤
  GoneOn i [] (n ∷ new) = ⊥
  GoneOn i (o ∷ old) [] = ⊥
  GoneOn zero (o ∷ old) (n ∷ new) = (n ≡ o) × GoneOn zero old new
  GoneOn (suc i) (o ∷ old) (n ∷ new) = PutsFor more o n × GoneOn i old new

  pub gone_none : (old : ColumnsValue) → GoneOn 0 old old
  gone_none [] = tt
  gone_none (o ∷ old) = (refl, gone_none old)

  pub gone_length : (i : ℕ) (old new : ColumnsValue) → GoneOn i old new → length new ≡ length old
  gone_length i [] [] now = refl
  gone_length i [] (n ∷ new) now = absurd now
  gone_length i (o ∷ old) [] now = absurd now
  gone_length zero (o ∷ old) (n ∷ new) now = ap suc (gone_length zero old new now.1)
  gone_length (suc i) (o ∷ old) (n ∷ new) now = ap suc (gone_length i old new now.1)

  gone_next : (i : ℕ) (old now : ColumnsValue) (into : ℕ × ColumnValue) → i < length old → GoneOn i old now → PutsFor more (get_or now i no_column) into → GoneOn (suc i) old (set now i into)
  gone_next i [] now into h gone puts = absurd (omega (arith, h))
  gone_next i (o ∷ old) [] into h gone puts = absurd gone
  gone_next zero (o ∷ old) (n ∷ now) into h gone puts = (subst (λ x. PutsFor more x into) gone.0 puts, gone.1)
  gone_next (suc i) (o ∷ old) (n ∷ now) into h gone puts = (gone.0, gone_next i old now into (omega (arith, h)) gone.1 puts)

  pub gone_step : (i : ℕ) (old now new : ColumnsValue) → i < length old → GoneOn i old now → PutsAt i more now new → GoneOn (i + 1) old new
  gone_step i old now new h gone puts =
      let next : suc i ≡ i + 1 = omega arith in
      subst (λ k. GoneOn k old new) next (subst (GoneOn (suc i) old) (sym puts.is) (gone_next i old now puts.into h gone puts.puts))

  gone_held : (rows both : List RowValue) → ((k : ℕ) → cells_at k both ≡ cells_at k rows ++ more k) → (i : ℕ) (old new : ColumnsValue) → length old ≤ i → GoneOn i old new →
      AllByRecursion (IsColumn rows) old → AllByRecursion (IsColumn both) new
  gone_held rows both is i [] [] h gone held = tt
  gone_held rows both is i [] (n ∷ new) h gone held = absurd gone
  gone_held rows both is i (o ∷ old) [] h gone held = absurd gone
  gone_held rows both is zero (o ∷ old) (n ∷ new) h gone held = absurd (omega (arith, h))
  gone_held rows both is (suc i) (o ∷ old) (n ∷ new) h gone held =
      (put_held rows both is o n gone.0 held.0, gone_held rows both is i old new (omega (arith, h)) gone.1 held.1)
    where
      put_held : (rows both : List RowValue) → ((k : ℕ) → cells_at k both ≡ cells_at k rows ++ more k) → (o n : ℕ × ColumnValue) → PutsFor more o n → IsColumn rows o → IsColumn both n
      put_held rows both is o n puts held = (puts.puts).behind ∙ ap (λ l. l ++ more o.0) held ∙ sym (is o.0) ∙ ap (λ k. cells_at k both) (sym puts.same)

  pub gone_all : (rows both : List RowValue) → ((k : ℕ) → cells_at k both ≡ cells_at k rows ++ more k) → (i : ℕ) (old new : ColumnsValue) → length old ≤ i → GoneOn i old new → Hold rows old → Hold both new
  gone_all rows both is i old new h gone held = record { each = gone_held rows both is i old new h gone held.each }

  pub gone_has : (index i : ℕ) (old new : ColumnsValue) → GoneOn i old new → has new index ≡ has old index
  gone_has index i [] [] gone = refl
  gone_has index i [] (n ∷ new) gone = absurd gone
  gone_has index i (o ∷ old) [] gone = absurd gone
  gone_has index zero (o ∷ old) (n ∷ new) gone = ap₂ (λ (a b : Bool). a || b) (ap (λ (c : ℕ × ColumnValue). c.0 == index) gone.0) (gone_has index zero old new gone.1)
  gone_has index (suc i) (o ∷ old) (n ∷ new) gone = ap₂ (λ (a b : Bool). a || b) (ap (λ k. k == index) (gone.0).same) (gone_has index i old new gone.1)

-- ---- the rows of a piece

pub taken_all : (old new : ColumnsValue) (entries : List (Cell × RowValue)) → TakesAll (λ old key row new. TakesRow row old new) old entries new → (rows : List RowValue) → Hold rows old →
    Hold (rows ++ rows_of entries) new
taken_all old new [] e rows held = subst (λ l. Hold l new) (sym (append-nil rows)) (subst (Hold rows) (sym e) held)
taken_all old new (x ∷ entries) (mid, one, rest) rows held =
    subst (λ l. Hold l new) (append_assoc rows (x.1 ∷ []) (rows_of entries)) (taken_all mid new entries rest (rows ++ x.1 ∷ []) (one.serves rows held))

pub taken_has : (index : ℕ) (old new : ColumnsValue) (entries : List (Cell × RowValue)) → TakesAll (λ old key row new. TakesRow row old new) old entries new → has new index ≡ has old index
taken_has index old new [] e = ap (λ (c : ColumnsValue). has c index) e
taken_has index old new (x ∷ entries) (mid, one, rest) = taken_has index mid new entries rest ∙ one.same index

pub cells_both : (rows more : List RowValue) (k : ℕ) → cells_at k (rows ++ more) ≡ cells_at k rows ++ cells_at k more
cells_both rows more k = map-append (λ r. get_or r.cells k Null) rows more

pub piece_put : (old new : ℕ × ColumnValue) (entries : List (Cell × RowValue)) → TakesAll (λ old key row new. PutsFor (λ index. cells_at index (row ∷ [])) old new) old entries new →
    PutsFor (λ index. cells_at index (rows_of entries)) old new
piece_put old new [] e = record {
  same = ap (λ (c : ℕ × ColumnValue). c.0) e;
  puts = record { behind = ap (λ (c : ℕ × ColumnValue). cells_of c.1) e ∙ sym (append-nil (cells_of old.1)) };
}
piece_put old new (x ∷ entries) (mid, one, rest) =
    let more = piece_put mid new entries rest in
    record {
      same = more.same ∙ one.same;
      puts = puts_both (cells_at old.0 (x.1 ∷ [])) (cells_at old.0 (rows_of entries)) old.1 mid.1 new.1 one.puts
          (subst (λ k. Puts (cells_at k (rows_of entries)) mid.1 new.1) one.same more.puts);
    }

-- the column of one index more
pub named_next : (named : List ℕ) (i index : ℕ) (old new : ColumnsValue) → i < length named → index ≡ get_or named i 0 → AddsColumn index old new → HaveAll (take i named) old → HaveAll (take (i + 1) named) new
named_next named i index old new h is adds all =
    subst (λ l. HaveAll l new) (sym (take_more named i 0 h))
    (all_push (λ k. has new k ≡ true) (take i named) (get_or named i 0) (stays (take i named) all) (subst (λ k. has new k ≡ true) is adds.there))
  where
    stays : (some : List ℕ) → HaveAll some old → HaveAll some new
    stays [] all = tt
    stays (k ∷ some) all = (adds.stay k all.0, stays some all.1)
