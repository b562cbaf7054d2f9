use Rattle.std.proofs.Common.{◌≡◌, map, take}
use Rattle.std.specs.List.{flat_map}
use Rattle.std.specs.Prelude.{replicate}
use Rattle.forms.specs.Tables.{gapped}
use Rattle.forms.proofs.table.dashes_of.Given as goal

abbrev pub invariant-loop-wide : goal.invariant-loop-wide
invariant-loop-wide l = l.made.items ≡ flat_map gapped (map (λ wide. replicate wide 45) (take l.wide-index l.widths))
