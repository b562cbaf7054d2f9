use Rattle.std.specs.Prelude.{⊤}
use Rattle.columns.proofs.columns.Columns.missing.Given as goal

abbrev pub invariant-loop-named : goal.invariant-loop-named
invariant-loop-named l = ⊤
