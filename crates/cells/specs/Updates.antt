-- Updates of a table, and the rows that a list of updates leaves.
use Rattle.std.specs.Prelude.{◌≡◌, Bool, not, false, List, [], ◌∷◌, ◌++◌, filter, map, if◌then◌else◌}
use Rattle.std.specs.List.{list_any}
use Rattle.cells.specs.CellOrder.{cell_eq}
use Rattle.cells.specs.Values.{RowValue}
use Rattle.cells.specs.declared.cell.Cell.{Cell}

-- an update lays a row over the row of its key, or takes out the row of a key
pub data Update : Type 0 where
  Put : (row : RowValue) → Update
  Delete : (key : Cell) → Update

-- each row is put, one after another
abbrev pub puts : List RowValue → List Update
puts rs = map Put rs

abbrev pub key_of : Update → Cell
key_of (Put row) = row.key
key_of (Delete key) = key

-- whether some update has the key
abbrev pub touches : Cell → List Update → Bool
touches key us = list_any (λ u. cell_eq (key_of u) key) us

-- the rows of those puts that no later update of the same key follows
abbrev pub rows : List Update → List RowValue
rows [] = []
rows (Put row ∷ later) = if touches row.key later then rows later else row ∷ rows later
rows (Delete key ∷ later) = rows later

-- the row's put is one of the updates, and no later update has its key
pub record IsLastPut (us : List Update) (row : RowValue) : Type 0 where
  pub before : List Update
  pub later : List Update
  pub is : us ≡ before ++ Put row ∷ later
  pub last : touches row.key later ≡ false

-- the rows of other keys
abbrev pub without : Cell → List RowValue → List RowValue
without key rs = filter (λ r. not (cell_eq r.key key)) rs

-- some updates leave these rows, so no key comes twice
pub record AreLeft (rs : List RowValue) : Type 0 where
  pub updates : List Update
  pub is : rs ≡ rows updates
