-- What a draft may be, and how many rows it has.
use Rattle.std.proofs.Common.{◌≡◌, ℕ, ◌+◌, ◌-◌, ◌≤◌, Bool, true, false, None, Some, Option, refl, sym, subst, ◌∙◌, arith, cond}
use Rattle.std.specs.FinMap.{contains_key, empty, get, insert, len, len-empty, len-insert, len-remove, remove}
use Rattle.cells.specs.CellOrder.{cell_cmp, cell_cmp-total}
use Rattle.cells.specs.Values.{RowValue}
use Rattle.cells.specs.declared.cell.Cell.{Cell}
use Rattle.cells.specs.Tables.{AreRowsOf, Rows, laid_over}
use Rattle.board.specs.Editions.{ChangesDraft, Editions, IsKept, Publishes, draft, limit, schema}

-- no rows keep any limit
pub empty_within : (rows : Rows) (most : ℕ) → rows ≡ empty → len rows ≤ most
empty_within rows most none = rw (none, len-empty cell_cmp RowValue) (omega arith)

-- a delete keeps the limit
pub remove_within : (old new : Rows) (key : Cell) (most : ℕ) → new ≡ remove old key → len old ≤ most → len new ≤ most
remove_within old new key most is within =
    rw is (let fewer = len-remove cell_cmp-total old key in at_most (contains_key old key) fewer) where
      at_most : (there : Bool) → len (remove old key) ≡ cond there (len old - 1) (len old) → len (remove old key) ≤ most
      at_most true e = omega arith
      at_most false e = omega arith

-- the same rows keep it
pub same_within : (old new : Rows) (most : ℕ) → new ≡ old → len old ≤ most → len new ≤ most
same_within old new most is within = rw is within

-- a keeper whose draft has other rows of the table, within its limit
pub kept_draft : (k : Editions) (rows : Rows) → IsKept k → AreRowsOf (schema k) rows → len rows ≤ limit k → IsKept (record k { drafted = rows })
kept_draft k rows kept fit within = record {
  some = kept.some;
  most = kept.most;
  within = within;
  drafted = fit;
  begun = kept.begun;
  last = kept.last;
  published = kept.published;
}

-- what the calls of a keeper make of rows that keep a limit keeps it
pub ruleset limit_stays = (empty_within, remove_within, same_within)

-- a row of a key that is there takes no new room, and any other takes that of one row
pub len_over : (old : Rows) (key : Cell) (row there : RowValue) → get old key ≡ Some there → len (insert old key row) ≡ len old
len_over old key row there e = len-insert cell_cmp-total old key row ∙ rw e refl

pub len_beside : (old : Rows) (key : Cell) (row : RowValue) → get old key ≡ None → len (insert old key row) ≡ len old + 1
len_beside old key row e = len-insert cell_cmp-total old key row ∙ rw e refl

most_by : (old : Rows) (key : Cell) (row : RowValue) (there : Option RowValue) → get old key ≡ there → len (insert old key row) ≤ len old + 1
most_by old key row None e = omega (arith, len_beside old key row e)
most_by old key row (Some there) e = omega (arith, len_over old key row there e)

-- whatever is there, a row more at most
pub len_most : (old : Rows) (key : Cell) (row : RowValue) → len (insert old key row) ≤ len old + 1
len_most old key row = most_by old key row (get old key) refl

-- what was seen of a keeper before and after its draft was changed, or a publish
pub changes_as : (view old new : Editions) (later : Rows) → view ≡ old → ChangesDraft view new (laid_over later (draft view)) → ChangesDraft old new (laid_over later (draft old))
changes_as view old new later is changes = subst (λ k. ChangesDraft k new (laid_over later (draft k))) is changes

pub seen_as : (view old mid new : Editions) → view ≡ old → new ≡ mid → Publishes view mid → Publishes old new
seen_as view old mid new is same publishes = subst (λ k. Publishes k new) is (subst (Publishes view) (sym same) publishes)
