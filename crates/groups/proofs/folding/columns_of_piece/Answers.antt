use Rattle.std.proofs.Common.{[], subst, ◌∙◌}
use Rattle.columns.specs.Columns.{HaveAll}
use Rattle.groups.proofs.NeededLemmas.{have_same}
use Rattle.groups.proofs.folding.columns_of_piece.Goals as goal

pub returns-clause-held : goal.returns-clause-held
returns-clause-held g c = c.in_ok-take.ensures.held [] c.in_ok-columns.ensures.none

pub returns-clause-serve : goal.returns-clause-serve
returns-clause-serve g c =
    subst (λ l. HaveAll l c.take.new.self) (c.as_slice.ensures.value ∙ c.in_ok-needed.ensures)
    (have_same c.as_slice.result.now c.in_ok-columns.columns c.take.new.self c.in_ok-take.ensures.same c.in_ok-columns.ensures.named)
