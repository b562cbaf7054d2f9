use Rattle.std.specs.Vec.Iter.{into_iter_items}
use Rattle.groups.proofs.BagJoinLemmas.{GoInto}
use Rattle.groups.proofs.bag.Bag.join.Given as goal

abbrev pub invariant-loop-tuple : goal.invariant-loop-tuple
invariant-loop-tuple g l = GoInto l.fn.self l.fn.more l.all (into_iter_items l.tuple-iterator)
