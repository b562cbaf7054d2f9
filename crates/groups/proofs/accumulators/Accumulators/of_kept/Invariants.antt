use Rattle.std.proofs.Common.{◌≡◌}
use Rattle.std.specs.Slice.Iter.{iter_rest}
use Rattle.groups.specs.Told.{accs_of_kept}
use Rattle.groups.proofs.ToldLemmas.{before}
use Rattle.groups.proofs.accumulators.Accumulators.of_kept.Given as goal

abbrev pub invariant-loop-kept : goal.invariant-loop-kept
invariant-loop-kept g l = before l.accs.items (accs_of_kept (iter_rest l.left) l.kept-iterator.rest.items) ≡ accs_of_kept l.fn.aggregations l.fn.kepts.items
