use Rattle.std.proofs.Common.{◌≡◌, drop}
use Rattle.query.specs.Lent.{total_of}
use Rattle.query.specs.Truth.{among, or_truth}
use Rattle.query.proofs.truth.among.Given as goal

abbrev pub invariant-loop-literal : goal.invariant-loop-literal
invariant-loop-literal l = among (total_of l.value) l.literals ≡ or_truth l.found (among (total_of l.value) (drop l.literal-index l.literals))
