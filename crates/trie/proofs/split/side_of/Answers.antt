use Rattle.trie.proofs.VariantsLemmas.{told_in}
use Rattle.trie.proofs.split.side_of.Goals as goal

pub returns-in-Branch : goal.returns-in-Branch
returns-in-Branch g c =
    told_in g.H.KeyHash.hash_of g.K.Ord.cmp _ _ _ _ _ _ _ _ c.in-Inner.is c.deref.ensures c.in-Branch.is c.requires.placed
