use Rattle.std.proofs.Common.{rules, ◌≡◌, ◌∙◌, ap, sym, arith}
use Rattle.std.proofs.lemmas.List.{length-map, take_all}
use Rattle.std.specs.List.{flat_map}
use Rattle.trie.specs.Nodes.{owned, values}
use Rattle.trie.specs.Tree.{entries, inner_entries}
use Rattle.trie.specs.Walks.{MayTakeAll}
use Rattle.trie.specs.declared.node.Inner.TheViews.{the_lemmas}
use Rattle.trie.proofs.TreeLemmas.{entries-Branch}
use Rattle.trie.proofs.WalkLemmas.{asked_of, may_child, may_one, takes_more}
use Rattle.trie.proofs.walk.+walk_node.Goals as goal

pub loop-child-preserved : goal.loop-child-preserved
loop-child-preserved g t c =
    takes_more g.W.Visitor.takes owned entries c.deref-child-items.result.now c.loop-child.child-index
    c.child-item.result (search rules) c.child-item.is c.args.visitor.now c.loop-child.visitor c.walk_node.new.visitor
    c.loop-child.invariant c.in_ok-walk_node-in-Branch.ensures

pub returns-after-loop-child : goal.returns-after-loop-child
returns-after-loop-child g t c =
    rw (
      c.in-Inner.is,
      sym c.deref-in-Inner.ensures ∙ c.in-Branch.is,
      entries-Branch _ _ c.in-Branch.children _,
      ← c.deref-child-items.ensures.value,
    ) (rw (take_all c.loop-child.child-index (values c.deref-child-items.result.now)
    (omega (arith, length-map c.deref-child-items.result.now owned, c.loop-child-test.false)))
    at c.loop-child.invariant)

pub visit-requires : goal.visit-requires
visit-requires g t c =
    asked_of (g.W.Visitor.asks c.args.visitor.now) _ _ _ c.deref.ensures c.deref-in-Leaf.ensures
    (may_one g.W.Visitor.asks g.W.Visitor.takes _ c.in-Leaf.pair.value c.args.visitor.now
    (ap (λ n. entries (owned n)) c.in-Leaf.is) c.requires)

pub walk_node-requires : goal.walk_node-requires
walk_node-requires g t c =
    let all : entries (owned c.args.node.now) ≡ flat_map entries (values c.in-Branch.children.items) =
    ap (λ n. entries (owned n)) c.in-Inner.is ∙ ap inner_entries (sym c.deref-in-Inner.ensures ∙ c.in-Branch.is) ∙ entries-Branch _ _ c.in-Branch.children _ in
    let may : MayTakeAll g.W.Visitor.asks g.W.Visitor.takes c.loop-child.visitor (entries (owned c.child-item.result)) =
    may_child g.W.Visitor.asks g.W.Visitor.takes owned entries c.deref-child-items.result.now c.loop-child.child-index
    c.child-item.result (search rules) c.child-item.is c.args.visitor.now c.loop-child.visitor
    (rw (all, ← c.deref-child-items.ensures.value) at c.requires) c.loop-child.invariant in
    λ κs outlives. (search (rules, the_lemmas), (outlives.0, (outlives.1.0, (outlives.1.1.0, (outlives.1.1.1, may)))))
