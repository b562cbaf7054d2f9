use Rattle.std.proofs.Common.{◌≡◌, drop}
use Rattle.groups.specs.Finishing.{left_by_all}
use Rattle.groups.proofs.report_row.behind.Given as goal

abbrev pub invariant-loop-item : goal.invariant-loop-item
invariant-loop-item g l = left_by_all (drop l.item-index l.items) l.accs ≡ left_by_all l.items l.accumulators
