use Rattle.std.specs.Iterator.Adapters.{zip_first, zip_second}
use Rattle.std.specs.Slice.Iter.{iter_rest}
use Rattle.groups.proofs.ToldLemmas.{Fitting}
use Rattle.groups.proofs.accumulators.Accumulators.fit.Given as goal

abbrev pub invariant-loop-first : goal.invariant-loop-first
invariant-loop-first g l = Fitting l.fn.self l.fn.other (iter_rest (zip_first l.first-iterator)) (iter_rest (zip_second l.first-iterator))
