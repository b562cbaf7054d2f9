use Rattle.std.specs.Prelude.{⊤}
use Rattle.groups.proofs.columnar.alike_before.Given as goal

abbrev pub invariant-loop-before : goal.invariant-loop-before
invariant-loop-before l = ⊤
