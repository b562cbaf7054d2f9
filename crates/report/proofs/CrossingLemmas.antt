-- Viewers that report may cross threads: each type has a lemma of its own, since one search that goes down through all of them runs out of
-- steps.
use denote.Param.Send.{IsSend, sendable}
use denote.RattleType.{RattleType}
use Rattle.std.proofs.Crossing.{crosses}
use Rattle.board.specs.contracts.viewer.Viewer as Viewer
use Rattle.cells.specs.declared.cell.Cell.{Cell}
use Rattle.cells.specs.declared.hash.KeyHash as KeyHash
use Rattle.query.specs.Crossing.{plan_send}
use Rattle.report.specs.contracts.onlooking.Glance as Glance
use Rattle.report.specs.contracts.onlooking.Onlooker as Onlooker
use Rattle.report.specs.contracts.watching.Shot as Shot
use Rattle.report.specs.contracts.watching.Watcher as Watcher

shot_send : IsSend Shot.the_field.row
shot_send = search (sendable, crosses) depth 40

module _ (H : RattleType) (cells : KeyHash.Ghosts H.Denot Cell) (s : IsSend H) (viewer : IsSend (Viewer.the_field H cells).row) where
  pub watcher_send : IsSend (Watcher.the_field H cells).row
  watcher_send = let hash = s in let viewed = viewer in let plan = plan_send in let shot = shot_send in search (sendable, crosses) depth 40

  pub onlooker_send : IsSend (Onlooker.the_field H cells).row
  onlooker_send = let hash = s in let viewed = viewer in let plan = plan_send in search (sendable, crosses) depth 40

  pub glance_send : IsSend (Glance.the_field H cells).row
  glance_send = let onlooker = onlooker_send in let shot = shot_send in search (sendable, crosses) depth 40
