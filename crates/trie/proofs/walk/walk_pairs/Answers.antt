use Rattle.std.proofs.Common.{◌≡◌, get_or, rules}
use Rattle.trie.proofs.WalkLemmas.{asked_of, may_next, takes_next}
use Rattle.trie.proofs.walk.walk_pairs.Goals as goal

pub loop-pair-preserved : goal.loop-pair-preserved
loop-pair-preserved g c =
    let here : c.pair-item.result ≡ get_or c.args.pairs.now.items c.loop-pair.pair-index c.pair-item.result =
    rw (← c.deref-pair-items.ensures.value) c.pair-item.is in
    takes_next g.W.Visitor.takes c.args.pairs.now.items c.loop-pair.pair-index c.pair-item.result (search rules) here
    c.args.visitor.now c.loop-pair.visitor c.visit.new.self c.loop-pair.invariant
    (rw (c.deref.ensures, c.deref-in-loop-pair.ensures) at c.in_ok-visit.ensures)

pub visit-requires : goal.visit-requires
visit-requires g c =
    let here : c.pair-item.result ≡ get_or c.args.pairs.now.items c.loop-pair.pair-index c.pair-item.result =
    rw (← c.deref-pair-items.ensures.value) c.pair-item.is in
    asked_of (g.W.Visitor.asks c.loop-pair.visitor) _ _ _ c.deref.ensures c.deref-in-loop-pair.ensures
    (may_next g.W.Visitor.asks g.W.Visitor.takes c.args.pairs.now.items c.loop-pair.pair-index c.pair-item.result (search rules) here
    c.args.visitor.now c.loop-pair.visitor c.requires c.loop-pair.invariant)
