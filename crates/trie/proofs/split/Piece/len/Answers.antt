use Rattle.std.proofs.Common.{ap, length, ◌∙◌}
use Rattle.trie.proofs.NodesLemmas.{node_len-is}
use Rattle.trie.proofs.split.Piece.len.Goals as goal

pub returns : goal.returns
returns g c = c.node_len.ensures ∙ (node_len-is g.H.KeyHash.hash_of g.K.Ord.cmp _ _ c.self.invariant.placed).0 ∙ ap length c.self.view_is
