use Rattle.olap.proofs.AnsweringLemmas.{found_or_not}
use Rattle.olap.proofs.answering.has_plan.Goals as goal

pub returns : goal.returns
returns c = λ text is. found_or_not c.args.schema.now text c.args.query c.check.result c.is_found.result is c.check.ensures.exact c.is_found.ensures
