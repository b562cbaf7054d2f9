use Rattle.std.proofs.Common.{◌≡◌, ◌++◌, map}
use Rattle.std.specs.Vec.Iter.{into_iter_items}
use Rattle.report.specs.Subtotals.{told_row}
use Rattle.report.proofs.subtotals.told_rows.Given as goal

abbrev pub invariant-loop-row : goal.invariant-loop-row
invariant-loop-row l = map told_row l.fn.rows.items ≡ l.all.items ++ map told_row (into_iter_items l.row-iterator)
