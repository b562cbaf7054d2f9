-- Tries of rows may cross threads.
use denote.Param.Send.{IsSend, IsSync, sendable}
use denote.RattleType.{RattleType}
use Rattle.std.proofs.Crossing.{crosses}
use Rattle.cells.specs.Crossing.{cell_send, cell_sync, row_send, row_sync}
use Rattle.cells.specs.contracts.cell.Cell as CellType
use Rattle.cells.specs.contracts.cell.CellOrd.TheImpl as TheOrder
use Rattle.cells.specs.contracts.cell.CellPartialEq.TheImpl as TheEquality
use Rattle.cells.specs.contracts.cell.CellPartialOrd.TheImpl as ThePartialOrder
use Rattle.cells.specs.contracts.row.Row as RowType
use Rattle.cells.specs.declared.cell.Cell.{Cell}
use Rattle.cells.specs.declared.hash.KeyHash as KeyHash
use Rattle.columns.specs.Crossing.{beside, beside_send, beside_sync}
use Rattle.columns.specs.contracts.piece_columns.PieceColumns as PieceColumns
use Rattle.columns.specs.contracts.piece_columns.PieceColumnsSummaryCellRow.TheImpl as TheSummary
use Rattle.trie.specs.Crossing.{node_send}
use Rattle.trie.specs.contracts.beside.SummedBeside.TheImpl as TheBeside
use Rattle.trie.specs.contracts.trie.Trie as Trie

module _ (H : RattleType) (cells : KeyHash.Ghosts H.Denot Cell) (s : IsSend H) (y : IsSync H) where
  pub trie_send : IsSend (Trie.the_field CellType.the_row RowType.the_row H beside TheOrder.ghosts TheEquality.ghosts ThePartialOrder.ghosts cells
      (TheBeside.ghosts CellType.the_row RowType.the_row PieceColumns.the_row TheSummary.ghosts TheBeside.no_dict TheBeside.no_dict)).row
  trie_send =
      let cell = cell_send in let cells = cell_sync in let row = row_send in let rows = row_sync in let sent = beside_send in let shared = beside_sync in
      search (node_send, sendable, crosses) depth 40
