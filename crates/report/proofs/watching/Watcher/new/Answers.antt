use Rattle.report.specs.Watching.{no_shot}
use Rattle.report.proofs.watching.Watcher.new.Goals as goal

pub invariant_of-result : goal.invariant_of-result
invariant_of-result g c = rw c.new.ensures.items no_shot
