use Rattle.std.proofs.Common.{◌≡◌, ◌==◌, ◌++◌, length, map}
use Rattle.std.specs.List.{join_with_byte, slice_split}
use Rattle.command.specs.Naming.{resolved, resolved_line}
use Rattle.command.proofs.naming.resolved_lines.Given as goal

abbrev pub invariant-loop-line : goal.invariant-loop-line
invariant-loop-line l = l.text.items ++ join_with_byte 10 (map (resolved_line l.names) (slice_split (λ b. b == 10) l.left)) ≡ resolved l.names l.script

abbrev pub decreases-loop-line : goal.decreases-loop-line
decreases-loop-line l = length l.left
