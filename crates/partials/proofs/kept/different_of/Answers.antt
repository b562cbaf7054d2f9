use Rattle.std.proofs.Common.{Some, ap, ◌∙◌}
use Rattle.aggs.specs.declared.kept.Kept.TheVariants.{Different}
use Rattle.partials.proofs.ListsLemmas.{list_found, list_missed}
use Rattle.partials.proofs.kept.different_of.Goals as goal

pub returns-in_default : goal.returns-in_default
returns-in_default c = λ cells spells. absurd (list_missed c.in_ok-cells.field-0 cells (c.in_ok-cells.ensures cells spells) c.in_default.is)

pub returns : goal.returns
returns c = λ cells spells.
    ap (λ l. Some (Different l)) (c.new.ensures ∙ list_found c.in_ok-cells.field-0 c.in-Some.cells cells (c.in_ok-cells.ensures cells spells) c.in-Some.is)
