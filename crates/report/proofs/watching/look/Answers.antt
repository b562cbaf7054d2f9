use Rattle.report.proofs.WatchingLemmas.{looked}
use Rattle.report.proofs.watching.look.Goals as goal

pub returns-clause-shot : goal.returns-clause-shot
returns-clause-shot g c = looked c.shot.result c.snapshot.new.self.history c.args.question.now c.in_ok-snapshot.snapshot c.in_ok-snapshot.ensures.last c.shot.ensures.edition c.shot.ensures.text
