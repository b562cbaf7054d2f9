use Rattle.std.proofs.Common.{◌≡◌, [], replicate}
use Rattle.groups.specs.Dealing.{indexes_of}
use Rattle.groups.proofs.dealing.empty_lists.Given as goal

abbrev pub invariant-loop-list : goal.invariant-loop-list
invariant-loop-list l = indexes_of l.made.items ≡ replicate l._list []
