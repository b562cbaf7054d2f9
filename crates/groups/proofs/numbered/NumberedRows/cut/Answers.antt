use Rattle.std.proofs.Common.{List, ap, subst, sym, ◌∙◌}
use Rattle.std.specs.Prelude.{ℕ, length}
use Rattle.groups.specs.Parting.{AreOfGroups, codes_at, parted_tuples}
use Rattle.groups.proofs.NumberedLemmas.{cells_picked, number_parts, numbered_parts, parts_below}
use Rattle.groups.proofs.PartingLemmas.{parted_by}
use Rattle.groups.proofs.numbered.NumberedRows.cut.Goals as goal

pub tuples_of-requires : goal.tuples_of-requires
tuples_of-requires c =
    let groups = c.args.self.now in
    let column = c.args.column.now in
    let rows : List ℕ = c.args.rows.now in
    let finer = c.in_ok-finer.finer in
    let are = parted_by finer c.as_slice.result.now groups.numbers.items c.codes.result.now column.by_row rows c.as_slice.ensures.value c.codes.ensures.codes c.in_ok-finer.ensures in
    subst (AreOfGroups (length groups.tuples.items)) (sym c.as_slice-2.ensures.value)
    (parts_below groups.numbers.items (codes_at column.by_row rows) finer.numbers.items finer.parts.items are (length groups.tuples.items) c.requires.all.within)

pub returns-clause-all : goal.returns-clause-all
returns-clause-all c =
    let groups = c.args.self.now in
    let column = c.args.column.now in
    let rows : List ℕ = c.args.rows.now in
    let finer = c.in_ok-finer.finer in
    let are = parted_by finer c.as_slice.result.now groups.numbers.items c.codes.result.now column.by_row rows c.as_slice.ensures.value c.codes.ensures.codes c.in_ok-finer.ensures in
    number_parts groups.numbers.items (codes_at column.by_row rows) finer.numbers.items finer.parts.items groups.tuples.items column.cells are (length rows) c.in_ok-tuples.tuples.items
    c.requires.all.counted (c.in_ok-tuples.ensures ∙ ap (parted_tuples groups.tuples.items column.cells) c.as_slice-2.ensures.value)

pub returns-clause-cut : goal.returns-clause-cut
returns-clause-cut c = λ all set index is numbered.
    let groups = c.args.self.now in
    let column = c.args.column.now in
    let rows : List ℕ = c.args.rows.now in
    let finer = c.in_ok-finer.finer in
    let are = parted_by finer c.as_slice.result.now groups.numbers.items c.codes.result.now column.by_row rows c.as_slice.ensures.value c.codes.ensures.codes c.in_ok-finer.ensures in
    numbered_parts groups.numbers.items (codes_at column.by_row rows) finer.numbers.items finer.parts.items groups.tuples.items column.cells are set index _ c.in_ok-tuples.tuples.items
    numbered (cells_picked column index all rows is c.requires.rows.within)
    (c.in_ok-tuples.ensures ∙ ap (parted_tuples groups.tuples.items column.cells) c.as_slice-2.ensures.value)
