use Rattle.std.proofs.Common.{◌≡◌}
use Rattle.groups.specs.Keeping.{cells_for}
use Rattle.groups.proofs.keeping.put_cells_for.Given as goal

abbrev pub invariant-loop-index : goal.invariant-loop-index
invariant-loop-index l = l.cells.items ≡ cells_for l.named l.index l.tuple
