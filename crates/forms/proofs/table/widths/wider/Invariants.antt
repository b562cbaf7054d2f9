use Rattle.std.proofs.Common.{◌≡◌, map, take}
use Rattle.std.specs.Prelude.{max, slice_get}
use Rattle.std.specs.List.{enumerate_from}
use Rattle.forms.specs.Tables.{width_of}
use Rattle.forms.proofs.table.widths.wider.Given as goal

abbrev pub invariant-loop-place : goal.invariant-loop-place
invariant-loop-place l = l.made.items ≡ map (λ at. max at.1 (width_of (slice_get l.totals at.0))) (enumerate_from 0 (take l.place l.widths))
