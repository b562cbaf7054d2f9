use Rattle.std.proofs.Common.{take, bytes_eq, map}
use Rattle.std.specs.List.{IsDistinct}
use Rattle.cells.proofs.schema.are_different.Given as goal

-- the columns so far have different names
abbrev pub invariant-loop-i : goal.invariant-loop-i
invariant-loop-i l = IsDistinct bytes_eq (map (λ c. c.name) (take l.i l.columns))
