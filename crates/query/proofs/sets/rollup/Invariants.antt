use Rattle.std.proofs.Common.{◌≡◌, ◌≤◌, drop, length, map}
use Rattle.query.specs.Marks.{marks}
use Rattle.query.specs.Sets.{rollup}
use Rattle.query.proofs.sets.rollup.Given as goal

abbrev pub invariant-loop-left : goal.invariant-loop-left
invariant-loop-left l = record {
  within : l.left ≤ length l.units;
  made : l.sets.items ≡ map (marks l.columns) (rollup (drop l.left l.units));
}

abbrev pub decreases-loop-left : goal.decreases-loop-left
decreases-loop-left l = l.left
