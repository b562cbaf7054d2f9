use Rattle.groups.proofs.LayingLemmas.{fits_copy, laid_copy}
use Rattle.groups.proofs.laying.laid_in_turn.Goals as goal

pub with_group-requires-clause-fit : goal.with_group-requires-clause-fit
with_group-requires-clause-fit g c =
    fits_copy g.H.KeyHash-2.hash_of c.args.aggregations.now c.args.set.now c.args.groups.now c.loop-group.group-index c.group-item.result
    c.loop-group-test.true c.group-item.is c.loop-group.trie c.in_ok-clone.field-0 c.in_ok-clone-2.field-0 c.loop-group.invariant c.requires.meet
    c.in_ok-clone.ensures.cases c.in_ok-clone-2.ensures.cases

pub loop-group-preserved : goal.loop-group-preserved
loop-group-preserved g c =
    laid_copy g.H.KeyHash-2.hash_of c.args.aggregations.now c.args.set.now c.args.groups.now c.loop-group.group-index c.group-item.result
    c.loop-group-test.true c.group-item.is c.loop-group.trie c.in_ok-trie-2.trie c.in_ok-clone.field-0 c.in_ok-clone-2.field-0 c.loop-group.invariant
    c.in_ok-clone.ensures.cases c.in_ok-clone-2.ensures.cases c.in_ok-trie-2.ensures
