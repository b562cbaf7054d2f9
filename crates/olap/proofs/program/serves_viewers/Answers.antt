use Rattle.std.proofs.Common.{refl}
use Rattle.olap.proofs.program.serves_viewers.Goals as goal

pub returns-in-None : goal.returns-in-None
returns-in-None c = rw c.in-None.is refl

pub returns-in-Some : goal.returns-in-Some
returns-in-Some c = rw c.in-Some.is (rw c.as_str.ensures at c.script_answers.ensures)
