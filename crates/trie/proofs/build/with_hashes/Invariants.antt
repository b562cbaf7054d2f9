use Rattle.std.proofs.Common.{◌≡◌, ◌++◌}
use Rattle.trie.specs.Building.{AreSmall, HaveTheirHashes, hashed_pairs}
use Rattle.trie.proofs.build.with_hashes.Given as goal

abbrev pub invariant-loop-pair : goal.invariant-loop-pair
invariant-loop-pair g l =
    record {
      pairs : hashed_pairs l.hashed.items ++ l.pair-iterator.rest.items ≡ l.fn.pairs.items;
      hashed : HaveTheirHashes g.H.KeyHash.hash_of l.hashed.items;
      small : AreSmall l.hashed.items;
    }
