use Rattle.std.proofs.Common.{◌≡◌, map, take}
use Rattle.cells.specs.Lent.{lent_cell}
use Rattle.cells.specs.Packing.{IsLeft}
use Rattle.cells.proofs.row.Row.cells.Given as goal

-- the cells so far, and those that are left
abbrev pub invariant-loop-i : goal.invariant-loop-i
invariant-loop-i l = record {
  read : map lent_cell l.cells.items ≡ take l._i l.self.cells;
  left : IsLeft l.count l._i l.self.cells l.rest;
}
