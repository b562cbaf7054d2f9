use Rattle.std.proofs.Common.{Some, ap}
use Rattle.std.specs.Prelude.{Ok}
use Rattle.shards.proofs.ListsLemmas.{list_found, list_missed}
use Rattle.shards.proofs.line.kept_of.Goals as goal

pub returns-in_default : goal.returns-in_default
returns-in_default c = λ sets spells. absurd (list_missed c.in_ok-sets.field-0 sets (c.in_ok-sets.ensures sets spells) c.in_default.is)

pub returns : goal.returns
returns c = λ sets spells. ap (λ s. Some (Some (Ok s))) (list_found c.in_ok-sets.field-0 c.in-Some.sets sets (c.in_ok-sets.ensures sets spells) c.in-Some.is)
