use Rattle.trie.specs.Nodes.{owned}
use Rattle.trie.proofs.MapRisingLemmas.{piece_rises}
use Rattle.trie.proofs.split.Piece.keys_rise.Goals as goal

pub returns : goal.returns
returns g c =
    rw (← c.self.view_is)
    (piece_rises g.H.KeyHash.hash_of g.K.Ord.cmp (owned c.self.inside.node) c.self.invariant)
