use Rattle.std.proofs.Common.{◌≡◌, take}
use Rattle.forms.specs.Tables.{widths_of}
use Rattle.report.proofs.printing.widths_of.Given as goal

abbrev pub invariant-loop-row : goal.invariant-loop-row
invariant-loop-row l = l.widths ≡ widths_of l.headings (take l.row-index l.rows)
