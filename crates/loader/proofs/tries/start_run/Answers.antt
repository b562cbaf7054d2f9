use denote.Param.Send.{sendable}
use Rattle.std.proofs.Crossing.{crosses}
use Rattle.loader.proofs.CrossingLemmas.{trie_send}
use Rattle.loader.proofs.tries.start_run.Goals as goal

pub in_thread-requires-send-T : goal.in_thread-requires-send-T
in_thread-requires-send-T g c κs within =
    let trie = trie_send _ g.H.KeyHash c.type_bounds.send-H c.type_bounds.sync-H in
    search (sendable, crosses) depth 40
