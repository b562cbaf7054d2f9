use Rattle.std.proofs.Common.{None, refl}
use Rattle.std.proofs.lemmas.Slice.Zip.{either_empty_from_Zip}
use Rattle.groups.proofs.ToldLemmas.{fitting_all}
use Rattle.groups.proofs.accumulators.Accumulators.fit.Goals as goal

pub returns-clause-room : goal.returns-clause-room
returns-clause-room g c = λ yes. fitting_all c.loop-first.invariant
    (either_empty_from_Zip c.loop-first.first-iterator c.next.new.self None refl c.in-None.ensures.steps)
