use Rattle.report.proofs.StartedLemmas.{viewer_behind}
use Rattle.report.proofs.audience.Audience.push.Goals as goal

pub returns-clause-pushed : goal.returns-clause-pushed
returns-clause-pushed g c = viewer_behind _ c.self.inside.begun c.self.inside.started.items _ c.args.started c.self.view_is c.in_ok-push_back.ensures.items
