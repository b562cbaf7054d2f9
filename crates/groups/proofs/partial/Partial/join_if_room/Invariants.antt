use Rattle.std.specs.Iterator.Adapters.{zip_first, zip_second}
use Rattle.std.specs.Slice.Iter.{iter_rest}
use Rattle.groups.proofs.JoinLemmas.{JoiningTries}
use Rattle.groups.proofs.partial.Partial.join_if_room.Given as goal

abbrev pub invariant-loop-first : goal.invariant-loop-first
invariant-loop-first g l =
    JoiningTries g.H.KeyHash-2.hash_of l.fn.self l.fn.other l.tries.items (iter_rest (zip_first l.first-iterator)) (iter_rest (zip_second l.first-iterator))
