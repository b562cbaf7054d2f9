use Rattle.std.proofs.Common.{◌≡◌, length, ◌≤◌, drop}
use Rattle.query.specs.Sets.{counted, grouping_sets}
use Rattle.query.proofs.counting.set_count.Given as goal

abbrev pub invariant-loop-left : goal.invariant-loop-left
invariant-loop-left l = record {
  within : l.left ≤ length l.elements;
  few : l.total ≤ 257;
  counted : l.total ≡ counted (length (grouping_sets (drop l.left l.elements)));
}

abbrev pub decreases-loop-left : goal.decreases-loop-left
decreases-loop-left l = l.left
