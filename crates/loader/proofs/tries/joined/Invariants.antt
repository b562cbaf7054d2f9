use Rattle.std.specs.List.{flat_map}
use Rattle.std.specs.Vec.Iter.{into_iter_items}
use Rattle.loader.specs.Shares.{all_in}
use Rattle.loader.proofs.TriesLemmas.{Gathers}
use Rattle.loader.proofs.tries.joined.Given as goal

abbrev pub invariant-loop-thread : goal.invariant-loop-thread
invariant-loop-thread g l =
    Gathers (flat_map (λ thread. all_in thread.promise.shares.value.items) l.fn.begun.items) l.all
    (flat_map (λ thread. all_in thread.promise.shares.value.items) (into_iter_items l.thread-iterator))
