use Rattle.std.proofs.Common.{◌≡◌, ◌++◌, map}
use Rattle.std.specs.Iterator.Adapters.{zip_first, zip_second}
use Rattle.std.specs.List.{zip}
use Rattle.std.specs.Vec.Iter.{into_iter_items}
use Rattle.report.specs.Subtotals.{told}
use Rattle.report.proofs.subtotals.told_all.Given as goal

abbrev pub invariant-loop-value : goal.invariant-loop-value
invariant-loop-value l = map told (zip l.fn.values.items l.fn.marks.items) ≡ l.all.items ++ map told (zip (into_iter_items (zip_first l.value-iterator)) (into_iter_items (zip_second l.value-iterator)))
