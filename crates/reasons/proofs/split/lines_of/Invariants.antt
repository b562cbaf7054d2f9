use Rattle.std.proofs.Common.{◌≡◌, ◌+◌, ◌++◌, [], length, map}
use Rattle.std.specs.Option.{option_map_or}
use Rattle.reasons.specs.Books.{between_ends}
use Rattle.reasons.proofs.split.lines_of.Given as goal

abbrev pub invariant-loop-left : goal.invariant-loop-left
invariant-loop-left l = between_ends l.fn.script ≡ map (λ line. line.now) l.lines.items ++ option_map_or (λ rest. between_ends rest.now) l.left []

abbrev pub decreases-loop-left : goal.decreases-loop-left
decreases-loop-left l = option_map_or (λ rest. length rest.now + 1) l.left 0
