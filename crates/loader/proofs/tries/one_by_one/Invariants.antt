use Rattle.std.specs.List.{flat_map}
use Rattle.std.specs.Vec.Iter.{into_iter_items}
use Rattle.loader.specs.Shares.{all_in}
use Rattle.loader.proofs.TriesLemmas.{Gathers}
use Rattle.loader.proofs.tries.one_by_one.Given as goal

abbrev pub invariant-loop-run : goal.invariant-loop-run
invariant-loop-run g l =
    Gathers (flat_map (λ run. all_in run.shares.items) l.fn.runs.items) l.all (flat_map (λ run. all_in run.shares.items) (into_iter_items l.run-iterator))
