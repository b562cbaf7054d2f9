use Rattle.groups.proofs.HavingLemmas.{shown_by_names}
use Rattle.groups.proofs.laws.having_by_names.Goals as goal

pub returns : goal.returns
returns c = shown_by_names c.truth_by_names.ensures.having
