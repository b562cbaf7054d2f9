use Rattle.std.proofs.Common.{◌≡◌, take}
use Rattle.columns.specs.Columns.{decoded}
use Rattle.groups.proofs.differing.cells_of_codes.Given as goal

abbrev pub invariant-loop-code : goal.invariant-loop-code
invariant-loop-code l = l.cells.items ≡ decoded l.column.cells (take l.code-index l.codes)
