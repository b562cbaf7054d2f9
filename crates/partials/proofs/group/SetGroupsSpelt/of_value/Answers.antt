use Rattle.std.proofs.Common.{Some, ap}
use Rattle.partials.proofs.ListsLemmas.{list_found, list_missed}
use Rattle.partials.proofs.group.SetGroupsSpelt.of_value.Goals as goal

pub returns-in_default : goal.returns-in_default
returns-in_default c = λ x spells. absurd (list_missed c.in_ok-groups.field-0 x (c.in_ok-groups.ensures x spells) c.in_default.is)

pub returns : goal.returns
returns c = λ x spells. ap Some (list_found c.in_ok-groups.field-0 c.in-Some.groups x (c.in_ok-groups.ensures x spells) c.in-Some.is)
