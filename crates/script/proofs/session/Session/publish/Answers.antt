use Rattle.script.proofs.ChangesLemmas.{publish_changes}
use Rattle.script.proofs.session.Session.publish.Goals as goal

pub change-requires-clause-changes : goal.change-requires-clause-changes
change-requires-clause-changes g c = λ κs outlives. publish_changes
