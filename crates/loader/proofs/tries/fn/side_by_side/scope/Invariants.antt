use Rattle.std.proofs.Common.{◌≡◌, ◌++◌}
use Rattle.std.specs.List.{flat_map}
use Rattle.std.specs.Vec.Iter.{into_iter_items}
use Rattle.loader.specs.Shares.{all_in}
use Rattle.loader.proofs.tries.fn.side_by_side.scope.Given as goal

abbrev pub invariant-loop-run : goal.invariant-loop-run
invariant-loop-run g l =
    flat_map (λ thread. all_in thread.promise.shares.value.items) l.begun.items ++ flat_map (λ run. all_in run.shares.items) (into_iter_items l.run-iterator)
    ≡ flat_map (λ run. all_in run.shares.items) (into_iter_items l.initial.run-iterator)
