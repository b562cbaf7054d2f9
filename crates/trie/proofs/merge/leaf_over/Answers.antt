use Rattle.std.proofs.Common.{refl, ◌∙◌, length, Some}
use Rattle.trie.specs.Holding.{held_at}
use Rattle.trie.specs.Nodes.{owned}
use Rattle.trie.proofs.CountLemmas.{counts_laid, counts_none}
use Rattle.trie.proofs.WriteLemmas.{mapped}
use Rattle.trie.proofs.merge.leaf_over.Goals as goal

pub get_at-old-requires-clause-placed : goal.get_at-old-requires-clause-placed
get_at-old-requires-clause-placed g c = (c.requires.meets.placed c.at-at.result (c.at-at.ensures.hash ∙ rw c.deref.ensures at c.hash.ensures) c.at-at.ensures.depth).0

pub get_at-new-requires-clause-placed : goal.get_at-new-requires-clause-placed
get_at-new-requires-clause-placed g c = (c.requires.meets.placed c.at-at.result (c.at-at.ensures.hash ∙ rw c.deref.ensures at c.hash.ensures) c.at-at.ensures.depth).1

pub pair_of_both-requires-clause-found : goal.pair_of_both-requires-clause-found
pair_of_both-requires-clause-found g c = rw (c.get_at-old.ensures, c.get_at-new.ensures, c.deref.ensures) c.requires.meets.found

pub put_at-requires-clause-hashed : goal.put_at-requires-clause-hashed
put_at-requires-clause-hashed g c =
    let pair = rw (c.get_at-old.ensures, c.get_at-new.ensures, c.deref.ensures) at c.in_ok-pair.ensures in
    c.at-at.ensures.hash ∙ (rw c.deref.ensures at c.hash.ensures ∙ c.requires.meets.alike c.in_ok-pair.pair.value pair)

pub put_at-requires-clause-placed : goal.put_at-requires-clause-placed
put_at-requires-clause-placed g c = (c.requires.meets.placed c.at-at.result (c.at-at.ensures.hash ∙ rw c.deref.ensures at c.hash.ensures) c.at-at.ensures.depth).2

pub returns-clause-map : goal.returns-clause-map
returns-clause-map g c =
    let pair = rw (c.get_at-old.ensures, c.get_at-new.ensures, c.deref.ensures) at c.in_ok-pair.ensures in
    mapped Some c.put_at.result c.map.result _ _
    (λ n has. c.requires.meets.become c.at-at.result (c.at-at.ensures.hash ∙ rw c.deref.ensures at c.hash.ensures) c.at-at.ensures.depth c.in_ok-pair.pair.value pair (owned n) has) c.put_at.ensures.map c.map.ensures.cases

pub returns-clause-counted : goal.returns-clause-counted
returns-clause-counted g c =
    let meets = c.requires.meets in
    counts_laid c.args.depth c.at-at.result.depth (length (held_at c.args.first)) (length (held_at c.args.second)) c.args.ticks.now c.put_at.new.ticks
    c.at-at.ensures.depth meets.low meets.some_first meets.some_second c.put_at.ensures.counted c.put_at.ensures.grows

pub returns-in_err-pair-clause-counted : goal.returns-in_err-pair-clause-counted
returns-in_err-pair-clause-counted g c = counts_none _ _ _ _ _ refl
