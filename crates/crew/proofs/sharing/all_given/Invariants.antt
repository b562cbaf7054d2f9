use Rattle.std.proofs.Common.{◌≡◌, ◌+◌, ◌≤◌, ◌++◌, map}
use Rattle.std.specs.Prelude.{Ok, vec_capacity, vec_len}
use Rattle.std.specs.Vec.Iter.{into_iter_items, into_iter_len}
use Rattle.crew.proofs.sharing.all_given.Given as goal

abbrev pub invariant-loop-one : goal.invariant-loop-one
invariant-loop-one g l = record {
  given : map Ok l.all.items ++ into_iter_items l.one-iterator ≡ into_iter_items l.initial.one-iterator;
  room : vec_len l.all + into_iter_len l.one-iterator ≤ vec_capacity l.all;
}
