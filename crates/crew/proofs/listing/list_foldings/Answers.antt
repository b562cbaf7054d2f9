use denote.Param.Send.{sendable}
use Rattle.crew.proofs.CrossingLemmas.{folding_send, listing_sync}
use Rattle.crew.proofs.listing.list_foldings.Goals as goal

pub share_out-requires-send-K-Made : goal.share_out-requires-send-K-Made
share_out-requires-send-K-Made g c κs within =
    let folding = folding_send _ g.H.KeyHash-1 c.type_bounds.send-H c.type_bounds.sync-H in
    search (folding, sendable) depth 20

pub share_out-requires-sync-K : goal.share_out-requires-sync-K
share_out-requires-sync-K g c κs within =
    let listing = listing_sync _ g.H.KeyHash-1 c.type_bounds.send-H c.type_bounds.sync-H in
    search (listing, sendable) depth 20
