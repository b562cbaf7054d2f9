-- Viewers may cross threads. Each type has a lemma of its own, since one search that goes down through all of them runs out of steps.
use denote.Param.Send.{IsSend, IsSync, sendable}
use denote.RattleType.{RattleType}
use Rattle.std.proofs.Crossing.{crosses}
use Rattle.atomic_table.proofs.badge.Badge.TheSendSync as TheBadge
use Rattle.atomic_table.proofs.send_lease.SendLease.TheSendSync as TheLease
use Rattle.atomic_table.proofs.shared.Shared.TheSendSync as TheShared
use Rattle.atomic_table.specs.contracts.owned.Table as Table
use Rattle.board.specs.contracts.law.About as About
use Rattle.board.specs.contracts.law.Law as Law
use Rattle.board.specs.contracts.law.LawTableRuleOptionSnapshotViewAbout.TheImpl as Rule
use Rattle.board.specs.contracts.law.View as View
use Rattle.board.specs.contracts.reader.Reader as Reader
use Rattle.board.specs.contracts.root.Root as Root
use Rattle.board.specs.contracts.snapshot.Snapshot as Snapshot
use Rattle.board.specs.contracts.told.Told as Told
use Rattle.board.specs.contracts.viewer.Viewer as Viewer
use Rattle.cells.specs.Crossing.{cell_send, cell_sync, row_send, row_sync}
use Rattle.cells.specs.declared.cell.Cell.{Cell}
use Rattle.cells.specs.declared.hash.KeyHash as KeyHash
use Rattle.columns.specs.Crossing.{beside_send, beside_sync}
use Rattle.std.specs.contracts.alloc.Global as Global
use Rattle.std.specs.contracts.impls.GlobalAllocator.TheImpl as Heap
use Rattle.std.specs.contracts.option.Option as OptionType
use Rattle.trie.specs.Crossing.{node_send}

-- ---- what was told, which has no bytes
pub told_send : IsSend Told.the_field.row
told_send = let badge = TheBadge.the_send View.the_row in search (sendable, crosses) depth 40

-- ---- snapshots, the board, and viewers
module _ (H : RattleType) (cells : KeyHash.Ghosts H.Denot Cell) (s : IsSend H) (y : IsSync H) where
  pub root_send : IsSend (Root.the_field H cells).row
  root_send = let sent = cell_send in let shared = cell_sync in let row = row_send in let rows = row_sync in let send = beside_send in let sync = beside_sync in search (node_send, sendable, crosses) depth 40

  pub snapshot_send : IsSend (Snapshot.the_field H cells).row
  snapshot_send = let root = root_send in search (sendable, crosses) depth 40

  abbrev slot : RattleType
  slot = OptionType.the_row (Snapshot.the_row H cells)

  slot_send : IsSend slot
  slot_send = let snapshot = snapshot_send in search (sendable, crosses) depth 40

  abbrev board : RattleType
  board = Table.the_row slot View.the_row About.the_row Law.the_row Global.the_row (Rule.ghosts H cells Rule.no_dict) Heap.ghosts

  board_crosses : IsSend board × IsSync board
  board_crosses = let slot = slot_send in (search (TheShared.the_send, TheLease.the_send, sendable, crosses) depth 40, search (TheShared.the_sync, TheLease.the_sync, sendable, crosses) depth 40)

  reader_send : IsSend (Reader.the_field H cells).row
  reader_send = let send = board_crosses.0 in let sync = board_crosses.1 in let badge = TheBadge.the_send View.the_row in search (sendable, crosses) depth 40

  pub viewer_send : IsSend (Viewer.the_field H cells).row
  viewer_send = let reader = reader_send in search (sendable, crosses) depth 40
