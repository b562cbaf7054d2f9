use Rattle.std.proofs.Common.{refl, sym, ◌∙◌, ap}
use Rattle.std.proofs.lemmas.Result.{IfOk-weaker}
use Rattle.trie.proofs.NodesLemmas.{branch_made, sole_made, written_total}
use Rattle.trie.proofs.SlotsLemmas.{low}
use Rattle.trie.specs.Nodes.{node_of, owned}
use Rattle.trie.proofs.node.with_slot.Goals as goal

pub next-requires : goal.next-requires
next-requires g c = low g.H.KeyHash.hash_of g.K.Ord.cmp _ _ c.args.at.within _ c.requires.slots

pub total-len-requires : goal.total-len-requires
total-len-requires g c =
    let lt = low g.H.KeyHash.hash_of g.K.Ord.cmp _ _ c.args.at.within _ c.requires.slots in
    let total =
    written_total g.H.KeyHash.hash_of g.K.Ord.cmp c.args.at.hash c.args.at.depth lt _ c.requires.slots
    (node_of c.args.slot) c.requires.placed c.next.result c.next.ensures.value c.in_ok-new.new c.in_ok-new.ensures in
    rw (c.deref.ensures.value, total) c.requires.fits

pub returns-in-Some-clause-held : goal.returns-in-Some-clause-held
returns-in-Some-clause-held g c =
    let lt = low g.H.KeyHash.hash_of g.K.Ord.cmp _ _ c.args.at.within _ c.requires.slots in
    sole_made g.H.KeyHash.hash_of g.K.Ord.cmp c.args.at.hash c.args.at.depth lt _ c.requires.slots
    (node_of c.args.slot) c.requires.placed c.next.result c.next.ensures.value c.in_ok-new.new c.in_ok-new.ensures
    c.total-len.result (c.total-len.ensures ∙ rw c.deref.ensures.value refl) (owned c.in-Some.only)
    (ap node_of (sym c.in-Some.is) ∙ c.in_ok-only.ensures)

pub returns-clause-held : goal.returns-clause-held
returns-clause-held g c =
    let lt = low g.H.KeyHash.hash_of g.K.Ord.cmp _ _ c.args.at.within _ c.requires.slots in
    let made =
    branch_made g.H.KeyHash.hash_of g.K.Ord.cmp c.args.at.hash c.args.at.depth lt _ c.requires.slots
    (node_of c.args.slot) c.requires.placed c.next.result c.next.ensures.value c.in_ok-new.new c.in_ok-new.ensures
    c.requires.some c.total-len.result (c.total-len.ensures ∙ rw c.deref.ensures.value refl)
    (sym c.in_ok-only.ensures ∙ ap node_of c.in_default.is) c.in_ok-beside.beside c.in_ok-beside.ensures in
    IfOk-weaker c.make.result _ _ (λ n e. made (owned n) e) c.make.ensures.made

pub written-requires-clause-digit : goal.written-requires-clause-digit
written-requires-clause-digit g c = c.next.ensures.bound

pub returns-clause-counted : goal.returns-clause-counted
returns-clause-counted g c = c.make.ensures.counted

pub returns-clause-grows : goal.returns-clause-grows
returns-clause-grows g c = c.make.ensures.grows
