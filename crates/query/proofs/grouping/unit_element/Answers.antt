use Rattle.query.proofs.Elements.{element_unit}
use Rattle.query.proofs.Lists.{turn_found}
use Rattle.query.proofs.grouping.unit_element.Goals as goal

pub returns-clause-reads : goal.returns-clause-reads
returns-clause-reads c = λ plain. rw c.unit.ensures (turn_found (element_unit c.args.tokens.now plain) c.in_ok-unit.ensures.reads)
