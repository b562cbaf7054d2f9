use Rattle.std.proofs.Common.{length}
use Rattle.prepare.proofs.texts.first_text.Given as goal

abbrev pub decreases-loop-row : goal.decreases-loop-row
decreases-loop-row l = length l.records
