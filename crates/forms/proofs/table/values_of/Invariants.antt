use Rattle.std.proofs.Common.{◌≡◌, take}
use Rattle.std.specs.List.{flat_map}
use Rattle.forms.specs.Tables.{cell_of, cells_of, gapped}
use Rattle.forms.proofs.table.values_of.Given as goal

abbrev pub invariant-loop-place : goal.invariant-loop-place
invariant-loop-place l = l.made.items ≡ flat_map gapped (cells_of cell_of l.widths (take l.place l.totals))
