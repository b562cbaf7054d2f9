use Rattle.std.proofs.Common.{◌≡◌, ◌++◌, ◌≤◌, length}
use Rattle.std.specs.List.{AllByRecursion, flat_map}
use Rattle.loader.proofs.tries.runs_of.Given as goal

abbrev pub invariant-loop-left : goal.invariant-loop-left
invariant-loop-left l = (flat_map (λ run. run.shares.items) l.runs.items ++ l.left.items ≡ l.fn.shares.items) × AllByRecursion (λ run. length run.shares.items ≤ l.most) l.runs.items

abbrev pub decreases-loop-left : goal.decreases-loop-left
decreases-loop-left l = length l.left.items
