-- What lies beside the rows of a table may cross threads.
use denote.Param.Send.{IsSend, IsSync, sendable}
use denote.RattleType.{RattleType}
use Rattle.std.proofs.Crossing.{crosses}
use Rattle.cells.specs.Crossing.{cell_send, cell_sync}
use Rattle.cells.specs.contracts.cell.Cell as Cell
use Rattle.cells.specs.contracts.row.Row as Row
use Rattle.columns.specs.contracts.code_column.CodeColumn as CodeColumn
use Rattle.columns.specs.contracts.piece_columns.PieceColumns as PieceColumns
use Rattle.columns.specs.contracts.piece_columns.PieceColumnsSummaryCellRow.TheImpl as TheSummary
use Rattle.columns.specs.contracts.piece_columns.Place as Place
use Rattle.shelf.specs.Crossing.{shelf_send, shelf_sync}
use Rattle.trie.specs.Crossing.{summed_send, summed_sync}
use Rattle.trie.specs.contracts.beside.Summed as Summed

column_send : IsSend CodeColumn.the_row
column_send = let cell = cell_send in search (sendable, crosses) depth 40

column_sync : IsSync CodeColumn.the_row
column_sync = let cell = cell_sync in search (sendable, crosses) depth 40

place_send : IsSend Place.the_row
place_send = let send = column_send in let sync = column_sync in search (shelf_send, sendable, crosses) depth 40

place_sync : IsSync Place.the_row
place_sync = let send = column_send in let sync = column_sync in search (shelf_sync, sendable, crosses) depth 40

columns_send : IsSend PieceColumns.the_row
columns_send = let place = place_send in search (sendable, crosses) depth 40

columns_sync : IsSync PieceColumns.the_row
columns_sync = let place = place_sync in search (sendable, crosses) depth 40

-- what lies beside a piece
abbrev pub beside : RattleType
beside = Summed.the_row Cell.the_row Row.the_row PieceColumns.the_row TheSummary.ghosts

pub beside_send : IsSend beside
beside_send = summed_send _ _ _ TheSummary.ghosts columns_send columns_sync

pub beside_sync : IsSync beside
beside_sync = summed_sync _ _ _ TheSummary.ghosts columns_send columns_sync
