use Rattle.std.proofs.Common.{◌≡◌, ◌++◌, take}
use Rattle.std.specs.List.{flat_map}
use Rattle.forms.specs.Csv.{csv_header, csv_row}
use Rattle.report.proofs.printing.csv_text.Given as goal

abbrev pub invariant-loop-row : goal.invariant-loop-row
invariant-loop-row l = l.text.items ≡ csv_header l.headings ++ flat_map csv_row (take l.row-index l.rows)
