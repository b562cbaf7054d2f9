-- What a report may want and not get.
use Rattle.std.specs.Prelude.{◌≡◌}
use Rattle.cells.specs.declared.refused.Refused.{Refused}
use Rattle.cells.specs.declared.refused.Refused.TheVariants.{NoWorker, OutOfMemory}
use Rattle.report.specs.declared.want.Want.{Want}
use Rattle.report.specs.declared.want.Want.TheVariants.{Memory, Worker}

-- the refusal that tells of it
abbrev pub refusal_of : Want → Refused
refusal_of Memory = OutOfMemory
refusal_of Worker = NoWorker

-- this was wanted where workers were refused so
pub record MeansWant (refused : Refused) (want : Want) : Type 0 where
  pub memory : refused ≡ OutOfMemory → want ≡ Memory
  pub worker : refused ≡ NoWorker → want ≡ Worker
