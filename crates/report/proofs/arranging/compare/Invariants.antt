use Rattle.std.proofs.Common.{◌≡◌, drop}
use Rattle.report.specs.Arranging.{rows_cmp}
use Rattle.report.proofs.arranging.compare.Given as goal

abbrev pub invariant-loop-column : goal.invariant-loop-column
invariant-loop-column l = rows_cmp (drop l.column-index l.columns) l.a l.b ≡ rows_cmp l.columns l.a l.b
