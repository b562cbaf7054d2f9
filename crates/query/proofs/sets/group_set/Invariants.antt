use Rattle.std.proofs.Common.{◌≡◌, ◌++◌, drop}
use Rattle.query.specs.Marks.{marked_from}
use Rattle.query.proofs.sets.group_set.Given as goal

abbrev pub invariant-loop-index : goal.invariant-loop-index
invariant-loop-index l = marked_from 0 l.marked-items ≡ l.columns.items ++ marked_from l.index (drop l.index l.marked-items)
