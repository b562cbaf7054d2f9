use Rattle.std.proofs.Common.{◌≡◌, map, take}
use Rattle.groups.specs.Keeping.{truth_for}
use Rattle.groups.proofs.keeping.truths.Given as goal

abbrev pub invariant-loop-tuple : goal.invariant-loop-tuple
invariant-loop-tuple l = l.truths.items ≡ map (truth_for l.predicate l.named l.width) (take l.tuple-index l.tuples)
