use Rattle.report.proofs.StartedLemmas.{going_behind}
use Rattle.report.proofs.onlookers.Onlookers.push_going.Goals as goal

pub returns-clause-pushed : goal.returns-clause-pushed
returns-clause-pushed g c = going_behind _ c.self.inside.going.items _ c.self.inside.waiting.items c.args.going c.self.view_is c.in_ok-push_back.ensures.items
