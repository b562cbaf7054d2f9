use Rattle.std.proofs.Common.{◌≡◌, ◌≤◌, drop, length, map}
use Rattle.query.specs.Marks.{marks}
use Rattle.query.specs.Sets.{grouping_sets}
use Rattle.query.proofs.sets.grouping_marks.Given as goal

abbrev pub invariant-loop-left : goal.invariant-loop-left
invariant-loop-left l = record {
  within : l.left ≤ length l.elements;
  made : l.sets.items ≡ map (marks l.columns) (grouping_sets (drop l.left l.elements));
}

abbrev pub decreases-loop-left : goal.decreases-loop-left
decreases-loop-left l = l.left
