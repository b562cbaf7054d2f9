use Rattle.trie.proofs.MapEntriesLemmas.{entries_move}
use Rattle.trie.proofs.laws.a_map_has_its_entries.Goals as goal

pub returns : goal.returns
returns g c = entries_move g.met.K.Ord.total
