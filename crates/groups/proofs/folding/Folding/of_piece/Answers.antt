use Rattle.std.proofs.Common.{List, arith, length, sym, ◌≡◌, ◌∙◌}
use Rattle.std.proofs.lemmas.List.{length-map}
use Rattle.cells.specs.Values.{RowValue}
use Rattle.groups.specs.Partials.{rows_of}
use Rattle.groups.proofs.folding.Folding.of_piece.Goals as goal

pub of_columns-requires-clause-rows : goal.of_columns-requires-clause-rows
of_columns-requires-clause-rows g c =
    let rows : List RowValue = rows_of c.args.piece.now in
    let long : c.len.result ≡ length rows = c.len.ensures ∙ sym (length-map c.args.piece.now (λ e. e.1)) in
    record { rows = rows; held = c.in_ok-columns.ensures.held; counted = sym long; few = omega (arith, c.len.ensures, c.requires) }

pub returns : goal.returns
returns g c =
    let rows : List RowValue = rows_of c.args.piece.now in
    c.in_ok-of_columns.ensures rows c.in_ok-columns.ensures.held (sym (c.len.ensures ∙ sym (length-map c.args.piece.now (λ e. e.1))))
