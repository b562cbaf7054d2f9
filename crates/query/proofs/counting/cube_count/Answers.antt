use Rattle.query.proofs.CountsLemmas.{many}
use Rattle.query.proofs.counting.cube_count.Goals as goal

pub returns-then-units-gt8 : goal.returns-then-units-gt8
returns-then-units-gt8 c = many c.args.units c.if-units-gt8.true
