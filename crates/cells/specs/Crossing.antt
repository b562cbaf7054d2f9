-- Cells, tuples and rows may cross threads.
use denote.Param.Send.{IsSend, IsSync, sendable}
use Rattle.std.proofs.Crossing.{crosses}
use Rattle.cells.specs.contracts.cell.Cell as Cell
use Rattle.cells.specs.contracts.row.Row as Row
use Rattle.cells.specs.contracts.tuple.Tuple as Tuple

pub cell_send : IsSend Cell.the_row
cell_send = search (sendable, crosses) depth 40

pub cell_sync : IsSync Cell.the_row
cell_sync = search (sendable, crosses) depth 40

pub tuple_send : IsSend Tuple.the_row
tuple_send = let cell = cell_send in search (sendable, crosses) depth 40

pub row_send : IsSend Row.the_row
row_send = let cell = cell_send in search (sendable, crosses) depth 40

pub row_sync : IsSync Row.the_row
row_sync = let cell = cell_sync in search (sendable, crosses) depth 40
