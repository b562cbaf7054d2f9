use Rattle.std.proofs.Common.{rules}
use Rattle.report.proofs.WatchingLemmas.{finished}
use Rattle.report.proofs.watching.Watcher.finish.Goals as goal

pub returns-clause-shots : goal.returns-clause-shots
returns-clause-shots g c = rw (← c.self.view_is)
    (finished c.args.keeper.now (record { viewer = c.self.inside.viewer; question = c.self.inside.question; shots = c.self.inside.shots.items }) c.last_look-last.new.viewer.history c.in_ok-last.field-0 c.in_ok-ended.field-0.items
    c.last_look-last.ensures.learnt.0 c.last_look-last.ensures.learnt.1 (search rules) c.self.invariant c.in_ok-ended.ensures)
