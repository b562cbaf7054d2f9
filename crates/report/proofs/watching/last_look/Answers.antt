use Rattle.report.proofs.WatchingLemmas.{looked_last}
use Rattle.report.proofs.watching.last_look.Goals as goal

pub returns-clause-last : goal.returns-clause-last
returns-clause-last g c =
    looked_last c.shot.result c.args.keeper.now c.args.question.now c.in_ok-snapshot.snapshot c.last_edition.ensures.ended c.in_ok-snapshot.ensures.last c.shot.ensures.edition c.shot.ensures.text
