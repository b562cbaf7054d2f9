use Rattle.std.proofs.Common.{◌≡◌}
use Rattle.trie.proofs.walk.look_at_leaves.Given as goal

abbrev pub invariant-loop-node : goal.invariant-loop-node
invariant-loop-node g l = l.visitor ≡ l.initial.visitor
