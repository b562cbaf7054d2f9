use Rattle.std.proofs.Common.{ap, ◌∙◌}
use Rattle.cells.specs.Packing.{cells_in}
use Rattle.cells.specs.RowForms.{form_count}
use Rattle.cells.specs.Values.{RowValue}
use Rattle.cells.proofs.PackingLemmas.{fills_as}
use Rattle.cells.proofs.row.Row.walk.Goals as goal

pub new-requires : goal.new-requires
new-requires c = fills_as _ _ _ _ c.self.invariant c.count.ensures c.bytes.ensures

pub returns : goal.returns
returns c =
    c.new.ensures ∙ ap (λ n. cells_in n c.bytes.result.now) c.count.ensures ∙ ap (cells_in (form_count c.self.inside.form)) c.bytes.ensures
    ∙ ap (λ (r : RowValue). r.cells) c.self.view_is
