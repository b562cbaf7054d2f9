use Rattle.std.proofs.Common.{take}
use Rattle.std.specs.List.{flat_map}
use Rattle.trie.specs.Nodes.{values}
use Rattle.trie.specs.Tree.{entries}
use Rattle.trie.specs.Walks.{TakesAll}
use Rattle.trie.proofs.walk.+walk_node.Given as goal

abbrev pub invariant-loop-child : goal.invariant-loop-child
invariant-loop-child g l =
    TakesAll g.W.Visitor.takes l.fn.visitor (flat_map entries (take l.child-index (values l.child-items))) l.visitor
