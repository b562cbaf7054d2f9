use Rattle.olap.specs.Answering.{no_table}
use Rattle.olap.proofs.answering.answers.Goals as goal

pub returns-in-Some : goal.returns-in-Some
returns-in-Some c = rw c.in-Some.is c.is_answered.ensures

pub returns-in-None : goal.returns-in-None
returns-in-None c = rw c.in-None.is no_table
