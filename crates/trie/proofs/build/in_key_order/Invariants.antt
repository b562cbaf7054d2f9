use Rattle.std.proofs.Common.{◌≡◌, take}
use Rattle.trie.specs.Building.{pairs_in}
use Rattle.trie.specs.Holding.{pairs_of}
use Rattle.trie.proofs.build.in_key_order.Given as goal

abbrev pub invariant-loop-one : goal.invariant-loop-one
invariant-loop-one g l = pairs_of l.owners.items ≡ take l.one-index (pairs_in l.pairs)
