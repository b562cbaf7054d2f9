use Rattle.std.proofs.Common.{ap, rules, ◌≡◌, ◌∙◌}
use Rattle.std.specs.FinSet.{from_list}
use Rattle.groups.proofs.DifferentCellsLemmas.{listed}
use Rattle.groups.proofs.different_cells.DifferentCells.list.Goals as goal

pub returns : goal.returns
returns c =
    let cells = c.self.inside.cells.value.items in
    let same : c.in_ok-cells.cells.items ≡ cells = search rules in
    ap (λ l. from_list l) (c.new.ensures ∙ same) ∙ listed cells c.self.invariant ∙ c.self.view_is
