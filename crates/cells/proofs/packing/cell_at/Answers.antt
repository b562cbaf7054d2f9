use Rattle.std.proofs.Common.{◌<◌, sym, ◌∙◌, arith}
use Rattle.std.proofs.lemmas.List.{get_or_past}
use Rattle.cells.specs.Packing.{cells_in}
use Rattle.cells.specs.declared.cell.Cell.TheVariants.{Null}
use Rattle.cells.proofs.PackingLemmas.{cells_in-length, left_cell, left_first}
use Rattle.cells.proofs.packing.cell_at.Goals as goal

pub returns-then-index-count : goal.returns-then-index-count
returns-then-index-count c =
    let len = cells_in-length c.args.count c.args.bytes.now in
    let past = c.if-index-count.true in
    sym (get_or_past (cells_in c.args.count c.args.bytes.now) c.args.index Null (omega arith))

pub first_cell-requires : goal.first_cell-requires
first_cell-requires c =
    let inside : c.args.index < c.args.count = let index = c.if-index-count.false in omega arith in
    left_first c.args.count c.args.index (cells_in c.args.count c.args.bytes.now) c.behind.result.now inside c.behind.ensures

pub returns : goal.returns
returns c =
    let inside : c.args.index < c.args.count = let index = c.if-index-count.false in omega arith in
    c.first_cell.ensures ∙ left_cell c.args.count c.args.index (cells_in c.args.count c.args.bytes.now) c.behind.result.now inside c.behind.ensures Null
