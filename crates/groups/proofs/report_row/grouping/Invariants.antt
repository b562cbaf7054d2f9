use Rattle.std.proofs.Common.{drop}
use Rattle.groups.proofs.GroupingLemmas.{Digits}
use Rattle.groups.proofs.report_row.grouping.Given as goal

abbrev pub invariant-loop-column : goal.invariant-loop-column
invariant-loop-column l = Digits l.set l.columns (drop l.column-index l.columns) l.column-index l.found
