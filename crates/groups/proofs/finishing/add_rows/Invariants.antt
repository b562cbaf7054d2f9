use Rattle.std.proofs.Common.{◌≡◌, ◌++◌}
use Rattle.std.specs.Vec.Iter.{into_iter_items}
use Rattle.groups.specs.Finishing.{rows_by}
use Rattle.groups.proofs.finishing.add_rows.Given as goal
use Rattle.trie.specs.Holding.{lent}

abbrev pub invariant-loop-group : goal.invariant-loop-group
invariant-loop-group g l = l.rows.items ++ rows_by l.set l.plan (lent (into_iter_items l.group-iterator)) ≡ l.fn.rows.items ++ rows_by l.set l.plan (lent (into_iter_items l.fn.groups))
