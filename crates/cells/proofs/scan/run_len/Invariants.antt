use Rattle.std.proofs.Common.{◌≡◌, ◌+◌, drop}
use Rattle.std.specs.List.{prefix_len}
use Rattle.cells.specs.Scanning.{class_test}
use Rattle.cells.proofs.scan.run_len.Given as goal

-- what was passed, and then the run of what is left, is the run of the whole
abbrev pub invariant-loop-i : goal.invariant-loop-i
invariant-loop-i l = l.i + prefix_len (class_test l.class) (drop l.i l.bytes) ≡ prefix_len (class_test l.class) l.bytes
