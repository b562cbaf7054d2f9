use Rattle.std.proofs.Common.{◌≡◌, [], replicate}
use Rattle.groups.proofs.tallying.empties.Given as goal

abbrev pub invariant-loop-acc : goal.invariant-loop-acc
invariant-loop-acc g l = l.accs.items ≡ replicate l._acc (g.A.Aggregate.of [])
