-- What is sent to workers and handed back by them may cross threads: what is folded, and the work itself. Each type
-- has a lemma of its own, since one search that goes down through all of them runs out of steps.
use denote.Param.Send.{IsSend, IsSync, sendable}
use denote.RattleType.{RattleType}
use denote.Ref.{NamedLft}
use Rattle.std.proofs.Crossing.{crosses}
use Rattle.std.proofs.MapsCrossing.{HashMap-send}
use Rattle.std.specs.declared.cmp.Ord as Ord
use Rattle.std.specs.declared.cmp.PartialEq as PartialEq
use Rattle.std.specs.declared.cmp.PartialOrd as PartialOrd
use Rattle.aggs.specs.contracts.acc.Acc as Acc
use Rattle.aggs.specs.contracts.distinct.CountDistinct as CountDistinct
use Rattle.cells.specs.Crossing.{cell_send, cell_sync, row_send, row_sync, tuple_send}
use Rattle.cells.specs.contracts.cell.Cell as CellType
use Rattle.cells.specs.contracts.cell.CellOrd.TheImpl as CellOrd
use Rattle.cells.specs.contracts.cell.CellPartialEq.TheImpl as CellPartialEq
use Rattle.cells.specs.contracts.cell.CellPartialOrd.TheImpl as CellPartialOrd
use Rattle.cells.specs.contracts.row.Row as Row
use Rattle.cells.specs.declared.cell.Cell.{Cell}
use Rattle.cells.specs.declared.hash.KeyHash as KeyHash
use Rattle.columns.specs.Crossing.{beside, beside_send, beside_sync}
use Rattle.columns.specs.contracts.code_column.CodeColumn as CodeColumn
use Rattle.columns.specs.contracts.columns.Columns as Columns
use Rattle.columns.specs.contracts.named_column.NamedColumn as NamedColumn
use Rattle.columns.specs.contracts.piece_columns.PieceColumns as PieceColumns
use Rattle.columns.specs.contracts.piece_columns.PieceColumnsSummaryCellRow.TheImpl as TheSummary
use Rattle.crew.specs.contracts.gathered.Gathered as Gathered
use Rattle.crew.specs.contracts.gathering.Gathering as Gathering
use Rattle.crew.specs.contracts.listing.Listing as Listing
use Rattle.groups.specs.contracts.accumulators.Accumulators as Accumulators
use Rattle.groups.specs.contracts.aggregation.Aggregation as Aggregation
use Rattle.groups.specs.contracts.bag.Bag as Bag
use Rattle.groups.specs.contracts.different_cells.DifferentCells as DifferentCells
use Rattle.groups.specs.contracts.folding.Folding as Folding
use Rattle.groups.specs.contracts.held.Held as Held
use Rattle.groups.specs.contracts.pool.SetBag as SetBag
use Rattle.query.specs.Crossing.{plan_sync}
use Rattle.trie.specs.contracts.beside.SummedBeside.TheImpl as Lies
use Rattle.trie.specs.contracts.split.Piece as Piece
use Rattle.trie.specs.declared.beside.Beside as Beside
use Rattle.trie.specs.Crossing.{field_sync, node_send, node_sync}

aggregation_send : IsSend Aggregation.the_field.row
aggregation_send = search (sendable, crosses) depth 40

column_send : IsSend CodeColumn.the_field.row
column_send = let cell = cell_send in search (sendable, crosses) depth 40

column_sync : IsSync CodeColumn.the_field.row
column_sync = let cell = cell_sync in search (sendable, crosses) depth 40

named_send : IsSend NamedColumn.the_field.row
named_send = let send = column_send in let sync = column_sync in search (sendable, crosses) depth 40

columns_send : IsSend Columns.the_field.row
columns_send = let column = named_send in search (sendable, crosses) depth 40

different_send : IsSend DifferentCells.the_field.row
different_send = let send = cell_send in let sync = cell_sync in search (sendable, crosses) depth 40

named_sync : IsSync NamedColumn.the_field.row
named_sync = let send = column_send in let sync = column_sync in search (sendable, crosses) depth 40

columns_sync : IsSync Columns.the_field.row
columns_sync = let column = named_sync in search (sendable, crosses) depth 40

-- ---- what is folded, and the work itself
module _ (H : RattleType) (cells : KeyHash.Ghosts H.Denot Cell) (s : IsSend H) (y : IsSync H) where
  distinct_send : IsSend (CountDistinct.the_field H cells).row
  distinct_send = let send = cell_send in let sync = cell_sync in search (node_send, sendable, crosses) depth 40

  acc_send : IsSend (Acc.the_field H cells).row
  acc_send = let cell = cell_send in let distinct = distinct_send in search (sendable, crosses) depth 40

  held_send : IsSend (Held.the_field H cells).row
  held_send = let acc = acc_send in let different = different_send in search (sendable, crosses) depth 40

  accumulators_send : IsSend (Accumulators.the_field H cells).row
  accumulators_send = let held = held_send in search (sendable, crosses) depth 40

  bag_send : IsSend (Bag.the_field H cells).row
  bag_send = let key = tuple_send in let value = accumulators_send in search (HashMap-send, sendable, crosses) depth 40

  set_bag_send : IsSend (SetBag.the_field H cells).row
  set_bag_send = let bag = bag_send in search (sendable, crosses) depth 40

  pub folding_send : (life : NamedLft) → IsSend (Folding.the_field life H cells).row
  folding_send life = let plan = plan_sync in let aggregation = aggregation_send in let set_bag = set_bag_send in search (sendable, crosses) depth 40

  pub gathered_send : (life : NamedLft) → IsSend (Gathered.the_field life H cells).row
  gathered_send life = let folding = folding_send life in let columns = columns_send in search (sendable, crosses) depth 40

  pub listing_sync : (life list : NamedLft) → IsSync (Listing.the_field life list H cells).row
  listing_sync life list = let plan = plan_sync in let columns = columns_sync in search (sendable, crosses) depth 40

  module _ (order : Ord.Ghosts (CellType.the_row).Denot) (equal : PartialEq.Ghosts (CellType.the_row).Denot) (partial : PartialOrd.Ghosts (CellType.the_row).Denot)
      (lies : Beside.Ghosts beside.Denot (CellType.the_row).Denot (Row.the_row).Denot) where
    piece_sync : IsSync (Piece.the_row CellType.the_row Row.the_row H beside order equal partial cells lies)
    piece_sync =
        let node = node_sync CellType.the_row Row.the_row beside lies cell_send cell_sync row_send row_sync beside_send beside_sync in
        let field = field_sync CellType.the_row Row.the_row beside lies cell_send cell_sync row_send row_sync beside_send beside_sync in
        search (sendable, crosses) depth 40

  module _ (G R : RattleType) (gs : IsSync G) (rs : IsSync R) where
    pub gathering_sync : (life pieces : NamedLft) → IsSync (Gathering.the_field life pieces H G R cells).row
    gathering_sync life pieces =
        let plan = plan_sync in
        let piece = piece_sync CellOrd.ghosts CellPartialEq.ghosts CellPartialOrd.ghosts (Lies.ghosts CellType.the_row Row.the_row PieceColumns.the_row TheSummary.ghosts Lies.no_dict Lies.no_dict) in
        search (sendable, crosses) depth 40
