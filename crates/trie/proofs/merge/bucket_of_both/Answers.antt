use Rattle.std.proofs.Common.{Some, ap}
use Rattle.trie.proofs.WriteLemmas.{mapped}
use Rattle.trie.proofs.merge.bucket_of_both.Goals as goal

pub returns-clause-made : goal.returns-clause-made
returns-clause-made g c =
    mapped Some c.make.result c.map.result _ _ (λ n is. (c.in_ok-pairs.pairs, ap Some is, c.in_ok-pairs.ensures)) c.make.ensures.made c.map.ensures.cases
