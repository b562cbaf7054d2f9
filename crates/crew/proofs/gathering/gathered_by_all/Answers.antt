use denote.Param.Send.{sendable}
use Rattle.crew.proofs.CrossingLemmas.{gathered_send, gathering_sync}
use Rattle.crew.proofs.gathering.gathered_by_all.Goals as goal

pub share_out-requires-send-K-Made : goal.share_out-requires-send-K-Made
share_out-requires-send-K-Made g c κs within =
    let gathered = gathered_send _ g.H.KeyHash-1 c.type_bounds.send-H c.type_bounds.sync-H in
    search (gathered, sendable) depth 20

pub share_out-requires-sync-K : goal.share_out-requires-sync-K
share_out-requires-sync-K g c κs within =
    let gathering = gathering_sync _ g.H.KeyHash-1 c.type_bounds.send-H c.type_bounds.sync-H _ _ c.type_bounds.sync-G c.type_bounds.sync-R in
    search (gathering, sendable) depth 20
