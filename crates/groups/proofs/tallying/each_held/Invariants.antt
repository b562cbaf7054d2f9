use Rattle.std.proofs.Common.{◌≡◌, ◌++◌, map}
use Rattle.groups.proofs.tallying.each_held.Given as goal

abbrev pub invariant-loop-acc : goal.invariant-loop-acc
invariant-loop-acc g l = l.all.items ++ map g.A.OfKind.acc l.acc-iterator.rest.items ≡ map g.A.OfKind.acc l.fn.accs.items
