use Rattle.std.proofs.Common.{[], ◌∷◌, ap, arith, length}
use Rattle.groups.proofs.KeepingLemmas.{cell_of_place}
use Rattle.groups.proofs.NumberedLemmas.{has_rows}
use Rattle.groups.proofs.asking.cell_of_row.Goals as goal

pub bounds-codes-place : goal.bounds-codes-place
bounds-codes-place c =
    let may = c.requires.row in
    let there = has_rows c.args.columns.now c.column_of-column.result.now c.args.index (c.args.place ∷ []) may (c.column_of-column.ensures may.rows may.held) in
    omega (arith, (there.within).0, ap (λ l. length l) c.codes.ensures.codes)

pub returns : goal.returns
returns c = λ all held.
    let may = c.requires.row in
    let there = has_rows c.args.columns.now c.column_of-column.result.now c.args.index (c.args.place ∷ []) may (c.column_of-column.ensures may.rows may.held) in
    cell_of_place c.column_of-column.result.now c.codes.result.now c.args.index c.args.place all c.in_ok-cell.field-0 (c.column_of-column.ensures all held) c.codes.ensures.codes
    (omega (arith, (there.within).0, ap (λ l. length l) c.codes.ensures.codes)) c.in_ok-cell.ensures
