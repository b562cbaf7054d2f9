-- Rows whose columns are at hand, as workers share them: list by list.
use Rattle.std.specs.Prelude.{◌≡◌, ℕ, ◌≤◌, List, [], IsPermutation, length, max, min, slice_index_or}
use Rattle.std.specs.Int.{div_ceil}
use Rattle.std.specs.List.{concat, range_with_len}
use Rattle.cells.specs.Values.{RowValue}
use Rattle.columns.specs.Columns.{ColumnsValue, Hold}
use Rattle.crew.specs.Gathering.{kept_at}
use Rattle.crew.specs.Limits.{piece_limit, workers_of}
use Rattle.groups.specs.Folds.{Folds}
use Rattle.groups.specs.Numbered.{picked_rows}
use Rattle.groups.specs.declared.folding.Folding.{Folding}
use Rattle.query.specs.Plans.{PlanTree}

-- to how many lists so many rows are dealt out for so many workers: a list for each of them, but few rows make no list, and many
-- are several
abbrev pub list_count : ℕ → ℕ → ℕ
list_count count workers = max (div_ceil count (max (min (div_ceil count (workers_of workers)) 4194304) 262144)) 1

-- the rows of the list at a place
abbrev pub rows_listed : List (List ℕ) → List RowValue → ℕ → List RowValue
rows_listed lists rows place = picked_rows rows (slice_index_or lists place [])

-- each of so many rows has its index in one of the lists, once, and there are not too many lists
pub record AreDealt (count : ℕ) (lists : List (List ℕ)) : Type 0 where
  pub each : IsPermutation (concat lists) (range_with_len 0 count)
  pub few : length lists ≤ piece_limit

-- a plan, the columns of so many rows, and the lists of the indexes of these
pub record Listed : Type 0 where
  pub plan : PlanTree
  pub columns : ColumnsValue
  pub count : ℕ
  pub lists : List (List ℕ)

-- whatever rows the columns hold, those of them for which WHERE is true went in from the lists at these places
pub record FoldsLists {H : Type 0} (listed : Listed) (places : List ℕ) (made : Folding H) : Type 0 where
  pub folds : (rows : List RowValue) → Hold rows listed.columns → length rows ≡ listed.count →
      Folds listed.plan (kept_at listed.plan (rows_listed listed.lists rows) places) made
