use Rattle.std.specs.Vec.Iter.{into_iter_items}
use Rattle.columns.proofs.WithLemmas.{Goes}
use Rattle.columns.proofs.columns.Columns.with.Given as goal

abbrev pub invariant-loop-named : goal.invariant-loop-named
invariant-loop-named l = Goes l.fn.self l.other l.columns.items (into_iter_items l.named-iterator)
