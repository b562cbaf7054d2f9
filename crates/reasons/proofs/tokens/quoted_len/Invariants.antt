use Rattle.std.proofs.Common.{◌-◌, length}
use Rattle.reasons.proofs.tokens.quoted_len.Given as goal

abbrev pub decreases-loop-at : goal.decreases-loop-at
decreases-loop-at l = length l.text - l.at
