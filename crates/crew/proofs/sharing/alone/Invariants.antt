use Rattle.std.proofs.Common.{◌≤◌}
use Rattle.std.specs.List.{range_with_len}
use Rattle.crew.proofs.sharing.alone.Given as goal

abbrev pub invariant-loop-place : goal.invariant-loop-place
invariant-loop-place g l = (g.K.Task.makes l.task (range_with_len 0 l.place) l.made) × (l.place ≤ l.count)
