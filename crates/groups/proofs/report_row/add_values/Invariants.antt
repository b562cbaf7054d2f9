use Rattle.std.proofs.Common.{◌≡◌, ◌++◌, drop}
use Rattle.groups.specs.Finishing.{row_by}
use Rattle.groups.proofs.report_row.add_values.Given as goal

abbrev pub invariant-loop-item : goal.invariant-loop-item
invariant-loop-item g l = l.values.items ++ row_by l.set l.tuple (drop l.item-index l.items) l.accs ≡ l.fn.values.items ++ row_by l.set l.tuple l.items l.accumulators
