use Rattle.std.specs.Map.{keys_of}
use Rattle.groups.proofs.RisingLemmas.{RiseTo}
use Rattle.groups.proofs.rising.rise.Given as goal
use Rattle.trie.specs.Holding.{lent}

abbrev pub invariant-loop-at : goal.invariant-loop-at
invariant-loop-at g l = RiseTo l.at (keys_of (lent l.groups))
