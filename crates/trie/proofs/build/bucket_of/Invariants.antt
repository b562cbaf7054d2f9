use Rattle.std.proofs.Common.{◌≡◌, [], drop}
use Rattle.std.specs.Map.{keys_of}
use Rattle.trie.specs.Entries.{IsRising, with_pairs}
use Rattle.trie.specs.Holding.{pairs_of}
use Rattle.trie.proofs.build.bucket_of.Given as goal

abbrev pub invariant-loop-pair : goal.invariant-loop-pair
invariant-loop-pair g l =
    record {
      rises : IsRising g.K.Ord.cmp (keys_of (pairs_of l.rising.items));
      laid : with_pairs g.K.Ord.cmp (pairs_of (drop l.pair-index l.pair-items)) (pairs_of l.rising.items)
          ≡ with_pairs g.K.Ord.cmp (pairs_of l.pair-items) [];
    }
