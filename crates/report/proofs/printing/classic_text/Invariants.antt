use Rattle.std.proofs.Common.{◌≡◌, ◌++◌, take}
use Rattle.std.specs.List.{flat_map}
use Rattle.forms.specs.Classic.{header_text, row_text}
use Rattle.report.proofs.printing.classic_text.Given as goal

abbrev pub invariant-loop-row : goal.invariant-loop-row
invariant-loop-row l = l.text.items ≡ header_text l.headings ++ flat_map row_text (take l.row-index l.rows)
