use Rattle.olap.proofs.TalksLemmas.{always_on_err, talk_unstarted}
use Rattle.olap.proofs.talk.talk_over.Goals as goal

pub returns-in_err-reader-clause-beginning : goal.returns-in_err-reader-clause-beginning
returns-in_err-reader-clause-beginning g c = always_on_err _ (talk_unstarted _ _ _ _ _)
