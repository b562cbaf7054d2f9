use Rattle.std.proofs.Common.{rules}
use Rattle.std.proofs.lemmas.Fn.{always_returns_same}
use Rattle.trie.proofs.PlacesLemmas.{searched_place}
use Rattle.trie.proofs.bucket.place_of.Goals as goal

pub returns : goal.returns
returns g c =
    let facts = c.binary_search_by.ensures in
    let by_key = facts.position (λ pair. g.K.Ord.cmp pair.value.0 c.args.key.now) (always_returns_same _ _ _ (λ a r h called. search rules)) in
    searched_place g.met.K.Ord.total (λ pair. pair.value) c.args.key.now c.args.pairs.now c.requires _ facts.bound by_key
