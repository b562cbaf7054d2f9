use Rattle.std.proofs.Common.{ap, length, sym, ◌∙◌}
use Rattle.cells.specs.RowForms.{form_bytes, form_count}
use Rattle.cells.specs.Values.{RowValue}
use Rattle.cells.proofs.PackingLemmas.{cells_in-length}
use Rattle.cells.proofs.row.Row.width.Goals as goal

pub returns : goal.returns
returns c =
    c.count.ensures ∙ sym (cells_in-length (form_count c.self.inside.form) (form_bytes c.self.inside.form))
    ∙ ap (λ (r : RowValue). length r.cells) c.self.view_is
