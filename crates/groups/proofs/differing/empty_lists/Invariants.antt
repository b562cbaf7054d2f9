use Rattle.std.proofs.Common.{◌≡◌, [], replicate}
use Rattle.groups.specs.Differing.{lists_of}
use Rattle.groups.proofs.differing.empty_lists.Given as goal

abbrev pub invariant-loop-list : goal.invariant-loop-list
invariant-loop-list g l = lists_of l.lists.items ≡ replicate l._list []
