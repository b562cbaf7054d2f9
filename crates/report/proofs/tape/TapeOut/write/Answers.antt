use Rattle.std.proofs.Common.{rules, Some}
use Rattle.report.specs.Laws.{takes_front}
use Rattle.report.proofs.tape.TapeOut.write.Goals as goal

-- what was taken before the fault is as much of the piece as was counted
pub returns-then-fails-clause-beginning : goal.returns-then-fails-clause-beginning
returns-then-fails-clause-beginning c =
    takes_front (Some c.args.self.now.taken) (Some c.extend_from_slice.new.self.items) c.args.bytes.now c.min-n.result (search rules)
