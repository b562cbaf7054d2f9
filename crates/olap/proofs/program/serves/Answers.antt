use Rattle.std.proofs.Common.{refl}
use Rattle.olap.proofs.program.serves.Goals as goal

pub returns-in-GoesOn : goal.returns-in-GoesOn
returns-in-GoesOn c = rw c.in-GoesOn.is refl

pub returns-in-Stops : goal.returns-in-Stops
returns-in-Stops c = rw c.in-Stops.is c.serves_viewers.ensures
