use Rattle.groups.proofs.FoldsLemmas.{end_counted, end_finer, stands_end}
use Rattle.groups.proofs.folding.Folding.into_partial.Goals as goal

pub tries_of-requires-clause-can : goal.tries_of-requires-clause-can
tries_of-requires-clause-can g c =
    end_counted c.args.self c.as_slice.result.now c.as_slice.ensures.value c.requires

pub tries_of-requires-clause-finer : goal.tries_of-requires-clause-finer
tries_of-requires-clause-finer g c = end_finer c.args.self c.sets.result.now c.sets.ensures c.requires

pub returns : goal.returns
returns g c = λ plan rows folds.
    stands_end g.H.KeyHash-2.hash_of c.args.self c.as_slice.result.now c.sets.result.now c.in_ok-tries.tries.items plan rows c.as_slice.ensures.value c.sets.ensures folds
    c.in_ok-tries.ensures
