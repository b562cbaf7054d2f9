use Rattle.std.proofs.Common.{◌≡◌, ◌++◌}
use Rattle.std.specs.Iterator.Adapters.{zip_first, zip_second}
use Rattle.std.specs.Slice.Iter.{iter_rest}
use Rattle.query.specs.Marks.{joined}
use Rattle.query.proofs.sets.joined.Given as goal

abbrev pub invariant-loop-a : goal.invariant-loop-a
invariant-loop-a l = joined l.first l.second ≡ l.marks.items ++ joined (iter_rest (zip_first l.a-iterator)) (iter_rest (zip_second l.a-iterator))
