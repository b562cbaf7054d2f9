use Rattle.std.proofs.Common.{◌≡◌, ◌++◌, map}
use Rattle.trie.specs.Building.{bare}
use Rattle.trie.proofs.build.with_owners.Given as goal

abbrev pub invariant-loop-hash : goal.invariant-loop-hash
invariant-loop-hash g l = map bare l.owned.items ++ l.hash-iterator.rest.items ≡ l.fn.pairs.items
