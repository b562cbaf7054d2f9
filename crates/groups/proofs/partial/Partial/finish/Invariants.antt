use Rattle.std.specs.Iterator.Adapters.{zip_first, zip_second}
use Rattle.std.specs.Slice.Iter.{iter_rest}
use Rattle.groups.proofs.FinishLemmas.{Finishing}
use Rattle.groups.proofs.partial.Partial.finish.Given as goal

abbrev pub invariant-loop-set : goal.invariant-loop-set
invariant-loop-set g l =
    Finishing g.H.KeyHash-2.hash_of l.plan l.fn.partial l.rows.items (iter_rest (zip_first l.set-iterator)) (iter_rest (zip_second l.set-iterator))
