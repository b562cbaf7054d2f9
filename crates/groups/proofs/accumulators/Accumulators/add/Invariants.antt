use Rattle.groups.proofs.AccumulatorsLemmas.{Adding}
use Rattle.groups.proofs.accumulators.Accumulators.add.Given as goal

abbrev pub invariant-loop-i : goal.invariant-loop-i
invariant-loop-i g l = Adding l.fn.self l.other l.i l.self-inside.accs.items
