use Rattle.olap.proofs.AnsweringLemmas.{unread}
use Rattle.olap.proofs.answering.is_answered.Goals as goal

pub returns-in-Ok : goal.returns-in-Ok
returns-in-Ok c = c.has_plan.ensures c.args.text.now c.in-Ok.ensures.found

pub returns-in-Err : goal.returns-in-Err
returns-in-Err c = unread c.args.schema.now c.args.text.now c.in-Err.fault c.no_answer.result c.in-Err.ensures.found c.no_answer.ensures
