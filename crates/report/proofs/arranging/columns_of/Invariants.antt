use Rattle.std.proofs.Common.{◌≡◌, map, take}
use Rattle.report.specs.Arranging.{column_of}
use Rattle.report.proofs.arranging.columns_of.Given as goal

abbrev pub invariant-loop-key : goal.invariant-loop-key
invariant-loop-key l = l.columns.items ≡ map (column_of l.headings) (take l.key-index l.order)
