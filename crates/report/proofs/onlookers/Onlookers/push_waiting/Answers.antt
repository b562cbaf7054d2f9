use Rattle.std.proofs.Common.{map}
use Rattle.report.specs.Onlookers.{onlooker_of}
use Rattle.report.proofs.StartedLemmas.{waiting_behind}
use Rattle.report.proofs.onlookers.Onlookers.push_waiting.Goals as goal

pub returns-clause-pushed : goal.returns-clause-pushed
returns-clause-pushed g c = waiting_behind _ (map onlooker_of c.self.inside.going.items) c.self.inside.waiting.items _ c.args.onlooker c.self.view_is c.in_ok-push_back.ensures.items
