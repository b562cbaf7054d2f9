use Rattle.trie.proofs.PiecesLemmas.{pieces_joined, pieces_parts}
use Rattle.trie.proofs.laws.pieces_are_parts.Goals as goal

pub returns-clause-joined : goal.returns-clause-joined
returns-clause-joined g c = λ es depth small rising.
    pieces_joined g.H.KeyHash.hash_of g.K.Ord.cmp es depth small rising

pub returns-clause-parts : goal.returns-clause-parts
returns-clause-parts g c = λ es depth small. pieces_parts g.H.KeyHash.hash_of g.K.Ord.cmp es depth small
