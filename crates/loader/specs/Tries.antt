-- Rows as tries, and tries put together.
use Rattle.std.specs.Prelude.{◌≡◌, ℕ, List, if◌then◌else◌, max, nat_lt}
use Rattle.std.specs.FinMap.{empty, insert}
use Rattle.std.specs.Int.{div_ceil}
use Rattle.std.specs.List.{AllByRecursion, fold}
use Rattle.cells.specs.CellOrder.{cell_cmp}
use Rattle.cells.specs.Fitting.{IsRowOf}
use Rattle.cells.specs.Tables.{Rows, keyed_rows, laid_over}
use Rattle.cells.specs.Values.{RowValue, Table}
use Rattle.cells.specs.declared.cell.Cell.{Cell}
use Rattle.trie.specs.Maps.{map_of}
use Rattle.loader.specs.Loads.{Held, HoldsPuts}
use Rattle.loader.specs.Shares.{AreSpread, Pairs}

-- rows inserted one after another: of the rows of a key the last one stands
abbrev pub inserted : Rows → Pairs → Rows
inserted m pairs = fold (λ (held : Rows) (p : Cell × RowValue). insert held p.0 p.1) m pairs

-- the trie holds these rows, each beside its key, as if they were put one after another
abbrev pub HoldsAll : Pairs → Held → Type 0
HoldsAll pairs held = map_of cell_cmp held ≡ inserted empty pairs

-- whatever rows are spread so, the trie holds what they leave once they are put one after another
abbrev pub HoldsShares : (Cell → ℕ) → List Pairs → Held → Type 0
HoldsShares hash_of shares held = (t : Table) (rs : List RowValue) → AreSpread hash_of (keyed_rows rs) shares → AllByRecursion (IsRowOf t) rs → HoldsPuts t rs held

-- the rows of two tries, where those of the second lie over those of the first
abbrev pub IsLaidOver : Held → Held → Held → Type 0
IsLaidOver first second both = map_of cell_cmp both ≡ laid_over (map_of cell_cmp second) (map_of cell_cmp first)

-- into how many runs shares may be cut: one of a single piece, and else one for each worker, and two at least
abbrev pub run_limit : ℕ → ℕ → ℕ
run_limit pieces workers = if nat_lt pieces 2 then 1 else max workers 2

-- the most shares that a run has, so that no worker is left with much more than its part of them
abbrev pub run_length : ℕ → ℕ → ℕ → ℕ
run_length pieces workers shares = max (div_ceil shares (run_limit pieces workers)) 1
