-- The nodes of a trie may cross threads where keys, values and what lies beside branches may. An inner node reaches itself
-- by way of its children. A place for a summary may cross threads where the summary may.
use denote.Enum.Declared.{row}
use denote.Hole.FixSend.{Crosses, both_send, both_sync}
use denote.Param.Send.{IsSend, IsSync, sendable}
use denote.RattleType.{RattleType}
use denote.Struct.Tuple as Struct
use Rattle.std.proofs.Common.{[], ◌∷◌}
use Rattle.std.proofs.Crossing.{crosses}
use Rattle.shelf.specs.Crossing.{shelf_send, shelf_sync}
use Rattle.trie.specs.contracts.beside.Side as Side
use Rattle.trie.specs.contracts.beside.Summed as Summed
use Rattle.trie.specs.contracts.node.Inner as Inner
use Rattle.trie.specs.contracts.node.Owner as Owner
use Rattle.trie.specs.declared.beside.Beside as Beside
use Rattle.trie.specs.declared.beside.Summary as Summary

module _ (K V B : RattleType) (ks : IsSend K) (ky : IsSync K) (vs : IsSend V) (vy : IsSync V) (bs : IsSend B) (by : IsSync B) where
  inner_crosses : Crosses (Inner.the_ring K V B) (Inner.the_member K V B)
  inner_crosses = record {
    send = λ h s y. let sent = s (Inner.the_member K V B) in let shared = y (Inner.the_member K V B) in
        let layer : IsSend (row (Inner.the_layer K V B h)) = search (sendable, crosses) depth 40 in layer;
    sync = λ h s y. let sent = s (Inner.the_member K V B) in let shared = y (Inner.the_member K V B) in
        let layer : IsSync (row (Inner.the_layer K V B h)) = search (sendable, crosses) depth 40 in layer;
  }

  hole_send : IsSend (Inner.the_hole K V B)
  hole_send = both_send (Inner.the_ring K V B) (Inner.by_members K V B (Crosses (Inner.the_ring K V B)) inner_crosses) (Inner.the_member K V B)

  hole_sync : IsSync (Inner.the_hole K V B)
  hole_sync = both_sync (Inner.the_ring K V B) (Inner.by_members K V B (Crosses (Inner.the_ring K V B)) inner_crosses) (Inner.the_member K V B)

  inner_send : IsSend (Inner.the_field K V B).row
  inner_send = let sent = hole_send in let shared = hole_sync in search (sendable, crosses) depth 40

  inner_sync : IsSync (Inner.the_field K V B).row
  inner_sync = let sent = hole_send in let shared = hole_sync in search (sendable, crosses) depth 40

module _ (K V S : RattleType) (beside : Beside.Ghosts S.Denot K.Denot V.Denot) where
  -- what lies beside each branch
  abbrev side : RattleType
  side = Side.the_row K V S beside

  abbrev pub node : RattleType
  node = Owner.the_row (Struct.Tuple (K ∷ V ∷ [])) (Inner.the_row K V side)

  module _ (ks : IsSend K) (ky : IsSync K) (vs : IsSend V) (vy : IsSync V) (ss : IsSend S) (sy : IsSync S) where
    side_send : IsSend side
    side_send = search (sendable, crosses) depth 40

    side_sync : IsSync side
    side_sync = search (sendable, crosses) depth 40

    sent : IsSend (Inner.the_field K V side).row
    sent = inner_send K V side ks ky vs vy side_send side_sync

    shared : IsSync (Inner.the_field K V side).row
    shared = inner_sync K V side ks ky vs vy side_send side_sync

    pub node_send : IsSend node
    node_send = let send = sent in let sync = shared in search (sendable, crosses) depth 40

    pub node_sync : IsSync node
    node_sync = let send = sent in let sync = shared in search (sendable, crosses) depth 40

    pub field_sync : IsSync (Owner.the_field (Struct.Tuple (K ∷ V ∷ [])) (Inner.the_row K V side)).row
    field_sync = let send = sent in let sync = shared in search (sendable, crosses) depth 40

module _ (K V S : RattleType) (summary : Summary.Ghosts S.Denot K.Denot V.Denot) (ss : IsSend S) (sy : IsSync S) where
  pub summed_send : IsSend (Summed.the_row K V S summary)
  summed_send = search (shelf_send, sendable, crosses) depth 40

  pub summed_sync : IsSync (Summed.the_row K V S summary)
  summed_sync = search (shelf_sync, sendable, crosses) depth 40
