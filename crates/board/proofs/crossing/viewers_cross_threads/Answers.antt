use Rattle.board.proofs.CrossingLemmas.{snapshot_send, told_send, viewer_send}
use Rattle.board.proofs.crossing.viewers_cross_threads.Goals as goal

pub returns-clause-viewer : goal.returns-clause-viewer
returns-clause-viewer g c = viewer_send _ g.H.KeyHash c.type_bounds.send-H c.type_bounds.sync-H

pub returns-clause-snapshot : goal.returns-clause-snapshot
returns-clause-snapshot g c = snapshot_send _ g.H.KeyHash c.type_bounds.send-H c.type_bounds.sync-H

pub returns-clause-told : goal.returns-clause-told
returns-clause-told g c = told_send
