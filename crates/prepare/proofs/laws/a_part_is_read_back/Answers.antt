use Rattle.prepare.proofs.LawsLemmas.{part_is_read_back}
use Rattle.prepare.proofs.laws.a_part_is_read_back.Goals as goal

pub returns : goal.returns
returns c = part_is_read_back
