use Rattle.trie.proofs.MapEntriesLemmas.{shape_keys}
use Rattle.trie.proofs.laws.a_map_has_the_shape_of_its_keys.Goals as goal

pub returns : goal.returns
returns g c = shape_keys g.met.K.Ord.total g.H.KeyHash.hash_of
