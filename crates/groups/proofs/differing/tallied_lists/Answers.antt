use Rattle.std.proofs.Common.{List, ℕ, subst}
use Rattle.groups.specs.Differing.{AreListed, lists_of}
use Rattle.groups.specs.Parting.{codes_at}
use Rattle.groups.proofs.DifferingLemmas.{tallied_codes}
use Rattle.groups.proofs.differing.tallied_lists.Goals as goal

pub returns : goal.returns
returns g c =
    let column = c.args.column.now in
    let rows : List ℕ = c.args.rows.now in
    tallied_codes c.args.count c.args.numbers.now (codes_at column.by_row rows) column.cells (lists_of c.in_ok-lists.lists.items) c.in_ok-held_of_lists.field-0.items
    (subst (λ codes. AreListed c.args.count c.args.numbers.now (codes_at codes rows) (lists_of c.in_ok-lists.lists.items)) c.codes.ensures.codes c.in_ok-lists.ensures)
    c.in_ok-held_of_lists.ensures
