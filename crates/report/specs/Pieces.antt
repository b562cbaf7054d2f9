-- The rows that pieces of a table hold.
use Rattle.std.specs.Prelude.{◌≡◌, ◌≤◌, ℕ, List, length}
use Rattle.std.specs.Map.{keys_of}
use Rattle.board.specs.Editions.{IsListOf}
use Rattle.cells.specs.CellOrder.{cell_cmp}
use Rattle.cells.specs.Tables.{Rows}
use Rattle.cells.specs.Values.{RowValue}
use Rattle.cells.specs.declared.cell.Cell.{Cell}
use Rattle.crew.specs.Gathering.{PieceValue, rows_in}
use Rattle.trie.specs.Cuts.{cut}
use Rattle.trie.specs.Maps.{RiseByHash, map_of}
use Rattle.trie.specs.declared.cutting.Cutting.{Cutting}

-- the pieces have each row of the map once, and each piece has one at least
pub record ArePiecesOf (rows : Rows) (pieces : List PieceValue) : Type 0 where
  pub all : IsListOf rows (rows_in pieces)
  pub few : length pieces ≤ length (rows_in pieces)

-- the pieces are those that the cutting makes of the map's entries, in the order of the digits of their hashes
pub record AreCut (hash : Cell → ℕ) (cutting : Cutting) (rows : Rows) (pieces : List PieceValue) : Type 0 where
  pub entries : List (Cell × RowValue)
  pub map : map_of cell_cmp entries ≡ rows
  pub rise : RiseByHash hash cell_cmp (keys_of entries)
  pub made : pieces ≡ cut hash cutting.depth cutting.small entries
