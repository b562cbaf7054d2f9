use Rattle.std.proofs.Common.{◌≡◌}
use Rattle.columns.proofs.columns.Columns.reserve.Given as goal

abbrev pub invariant-loop-place : goal.invariant-loop-place
invariant-loop-place l = l.self-inside.columns.items ≡ l.initial.self-inside.columns.items
