use Rattle.std.proofs.Common.{◌≤◌, length}
use Rattle.reasons.proofs.tokens.span_of.Given as goal

abbrev pub invariant-loop : goal.invariant-loop
invariant-loop l = l.end ≤ length l.text
