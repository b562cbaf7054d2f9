use Rattle.prepare.proofs.IntegersLemmas.{no_integer}
use Rattle.prepare.proofs.integers.integer_in.Goals as goal

pub returns-in-Err : goal.returns-in-Err
returns-in-Err c = no_integer c.args.field.now c.in-Err.ensures.cases.0
