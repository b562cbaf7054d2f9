-- Why a report has no answer.
use Rattle.std.proofs.Common.{◌≡◌, ◌⊎◌, inl, inr}
use Rattle.cells.specs.declared.refused.Refused.{Refused}
use Rattle.cells.specs.declared.refused.Refused.TheVariants.{NoWorker, OutOfMemory}
use Rattle.report.specs.Wants.{refusal_of}
use Rattle.report.specs.declared.want.Want.{Want}
use Rattle.report.specs.declared.want.Want.TheVariants.{Memory, Worker}

-- a thread was refused, or memory
pub refused_so : (want : Want) (e : Refused) → e ≡ refusal_of want → (e ≡ NoWorker) ⊎ (e ≡ OutOfMemory)
refused_so Memory e is = inr is
refused_so Worker e is = inl is
