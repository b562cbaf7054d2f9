use Rattle.std.proofs.Common.{ap, sym, ◌∙◌}
use Rattle.std.specs.FinMap.{len}
use Rattle.cells.specs.Tables.{Rows}
use Rattle.board.proofs.root.Root.len.Goals as goal

pub returns : goal.returns
returns g c = c.len.ensures ∙ sym (c.entries_are_a_map.ensures.len c.self.inside.rows c.self.invariant) ∙ ap (λ (r : Rows). len r) c.self.view_is
