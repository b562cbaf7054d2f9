use Rattle.std.proofs.Common.{take}
use Rattle.trie.specs.Holding.{pairs_of}
use Rattle.trie.specs.Walks.{TakesAll}
use Rattle.trie.proofs.walk.walk_pairs.Given as goal

abbrev pub invariant-loop-pair : goal.invariant-loop-pair
invariant-loop-pair g l =
    TakesAll g.W.Visitor.takes l.initial.visitor (take l.pair-index (pairs_of l.pairs.items)) l.visitor
