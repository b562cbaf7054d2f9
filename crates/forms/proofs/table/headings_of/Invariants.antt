use Rattle.std.proofs.Common.{◌≡◌, take}
use Rattle.std.specs.List.{flat_map}
use Rattle.forms.specs.Tables.{at_left, cells_of, gapped, shown_text}
use Rattle.forms.proofs.table.headings_of.Given as goal

abbrev pub invariant-loop-place : goal.invariant-loop-place
invariant-loop-place l = l.made.items ≡ flat_map gapped (cells_of (λ wide heading. at_left wide (shown_text heading)) l.widths (take l.place l.headings))
