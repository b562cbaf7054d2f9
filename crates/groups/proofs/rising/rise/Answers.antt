use Rattle.std.proofs.Common.{◌-◌, arith, sym, ◌∙◌}
use Rattle.std.specs.Map.{keys_of}
use Rattle.groups.proofs.RisingLemmas.{key_at, keys_count, rise_all, rise_more}
use Rattle.groups.proofs.rising.rise.Goals as goal
use Rattle.trie.specs.Holding.{lent}

pub loop-at-preserved : goal.loop-at-preserved
loop-at-preserved g c =
    let groups = c.args.groups.now in
    let at = c.loop-at.at in
    rise_more (at - 1) at (keys_of (lent groups)) (omega arith)
    (λ d. rw (key_at groups (at - 1) c.index-groups-at.result (omega arith) d, key_at groups at c.index-groups-at-in-loop-at.result (omega arith) d)
    (sym c.cmp.ensures ∙ c.in-Less.is)) c.loop-at.invariant

pub returns : goal.returns
returns g c = λ it.
    rise_all c.loop-at.at (keys_of (lent c.args.groups.now)) (omega (arith, keys_count c.args.groups.now, c.loop-at-test.false)) c.loop-at.invariant
