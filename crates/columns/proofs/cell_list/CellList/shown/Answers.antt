use Rattle.std.proofs.Common.{◌≡◌, ◌∙◌, ap, get_or, rules, sym, subst}
use Rattle.std.proofs.lemmas.List.{get_or_read}
use Rattle.cells.specs.Lent.{lent_cell}
use Rattle.cells.specs.declared.cell.Cell.TheVariants.{Null}
use Rattle.columns.proofs.cell_list.CellList.shown.Goals as goal

pub returns-then-is-clause-found : goal.returns-then-is-clause-found
returns-then-is-clause-found c =
    let items = c.self.inside.cells.items in
    let found = c.in_ok-found.found.now in
    let code = c.in_ok-code.field-0.now in
    let same : found ≡ lent_cell c.args.cell.now = sym (c.is.ensures.0 c.if-is.true) in
    let there : found ≡ get_or items code found = c.in_ok-found.ensures.lookup.1 ∙ ap (λ l. get_or l code found) c.deref-2.ensures.value in
    subst (λ cells. get_or cells code Null ≡ lent_cell c.args.cell.now) c.self.view_is (sym (get_or_read items code found (search rules) there Null) ∙ same)
