use Rattle.std.proofs.Common.{◌≡◌, length, ◌+◌, ◌≤◌, drop}
use Rattle.query.specs.Trees.{elements_of}
use Rattle.query.specs.Sets.{counted, sets_of, sets_of_each}
use Rattle.query.proofs.counting.+element_count.Given as goal

abbrev pub invariant-loop-inner : goal.invariant-loop-inner
invariant-loop-inner l = (l.total ≤ 257) × (counted (l.total + length (sets_of_each (elements_of (drop l.inner-index l.inner-items)))) ≡ counted (length (sets_of l.element)))
