use Rattle.std.proofs.Common.{rules}
use Rattle.std.specs.Vec.Iter.{into_iter_items}
use Rattle.groups.proofs.ToldLemmas.{told_more}
use Rattle.groups.proofs.told.told_groups.Goals as goal
use Rattle.trie.specs.Holding.{lent}

pub loop-group-preserved : goal.loop-group-preserved
loop-group-preserved g c =
    let group = c.in-Some.group in
    told_more (lent (into_iter_items c.args.groups)) (lent (into_iter_items c.loop-group.group-iterator)) (lent (into_iter_items c.next.new.self))
    (group.0.now, group.1.now) c.loop-group.told.items c.push.new.self.items (record { tuple = c.in_ok-tuple.tuple; kept = c.in_ok-kept.kept.items }) c.loop-group.invariant
    (search rules) (search rules) c.in_ok-kept.ensures c.in_ok-push.ensures.items
