use denote.Param.Send.{sendable}
use Rattle.std.proofs.Crossing.{crosses}
use Rattle.report.proofs.CrossingLemmas.{glance_send}
use Rattle.report.proofs.onlookers.start_ending.Goals as goal

pub in_thread-requires-send-T : goal.in_thread-requires-send-T
in_thread-requires-send-T g c κs within =
    let glance = glance_send _ g.H.KeyHash-1 c.type_bounds.send-H c.viewers_cross_threads.ensures.viewer in
    search (sendable, crosses) depth 40
