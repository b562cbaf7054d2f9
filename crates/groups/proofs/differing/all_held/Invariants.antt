use Rattle.std.proofs.Common.{◌≡◌, ◌++◌, map}
use Rattle.aggs.specs.Accs.{acc_of}
use Rattle.aggs.specs.declared.acc.Kind.TheVariants.{CountDistinct}
use Rattle.groups.specs.Differing.{lists_of}
use Rattle.groups.proofs.differing.all_held.Given as goal

abbrev pub invariant-loop-list : goal.invariant-loop-list
invariant-loop-list g l = l.all.items ++ map (acc_of CountDistinct) (lists_of l.list-iterator.rest.items) ≡ map (acc_of CountDistinct) (lists_of l.fn.lists.items)
