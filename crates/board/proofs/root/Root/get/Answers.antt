use Rattle.std.proofs.Common.{ap, sym, ◌∙◌}
use Rattle.std.specs.FinMap.{get}
use Rattle.cells.specs.Tables.{Rows}
use Rattle.board.proofs.root.Root.get.Goals as goal

pub returns : goal.returns
returns g c =
    c.get.ensures ∙ sym (c.entries_are_a_map.ensures.value c.self.inside.rows c.args.key.now) ∙ ap (λ (r : Rows). get r c.args.key.now) c.self.view_is
