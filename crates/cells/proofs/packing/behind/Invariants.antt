use Rattle.cells.specs.Packing.{IsLeft, cells_in}
use Rattle.cells.proofs.packing.behind.Given as goal

abbrev pub invariant-loop-i : goal.invariant-loop-i
invariant-loop-i l = IsLeft l.count l._i (cells_in l.count l.bytes) l.rest
