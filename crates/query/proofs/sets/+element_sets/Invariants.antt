use Rattle.std.proofs.Common.{◌≡◌, ◌++◌, drop, map}
use Rattle.query.specs.Trees.{elements_of}
use Rattle.query.specs.Marks.{marks}
use Rattle.query.specs.Sets.{sets_of, sets_of_each}
use Rattle.query.proofs.sets.+element_sets.Given as goal

abbrev pub invariant-loop-inner : goal.invariant-loop-inner
invariant-loop-inner l = map (marks l.columns) (sets_of l.element) ≡ l.sets.items ++ map (marks l.columns) (sets_of_each (elements_of (drop l.inner-index l.inner-items)))
