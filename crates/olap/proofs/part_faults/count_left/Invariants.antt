use Rattle.std.proofs.Common.{length}
use Rattle.olap.proofs.part_faults.count_left.Given as goal

abbrev pub decreases-loop-count : goal.decreases-loop-count
decreases-loop-count l = length l.faults
