use Rattle.std.proofs.Common.{◌<◌, ◌≤◌, ap, arith, get_or, length, sym, ◌∙◌}
use Rattle.cells.specs.Lent.{lent_cell}
use Rattle.cells.specs.Packing.{cells_in}
use Rattle.cells.specs.Records.{cell_of}
use Rattle.cells.specs.RowBytes.{row_bytes}
use Rattle.cells.specs.declared.schema.Column.{Column}
use Rattle.cells.proofs.PackingLemmas.{cells_in-length, more_cells, more_fills}
use Rattle.cells.proofs.RecordsLemmas.{read_bad, read_more, read_past}
use Rattle.cells.proofs.row.RowReader.read.Goals as goal

pub returns-then-self-width-clause-bad : goal.returns-then-self-width-clause-bad
returns-then-self-width-clause-bad c = λ is fields more read.
    let xs = cells_in c.self.inside.count (row_bytes c.self.inside.bytes) in
    let full : length c.self.inside.schema.now.columns ≤ length xs =
    let count = cells_in-length c.self.inside.count (row_bytes c.self.inside.bytes) in
    let width = c.width.ensures.value in
    let test = c.if-self-width.true in
    omega arith in
    read_past c.args.self.now c.self.inside.schema.now xs c.self.view_is fields c.args.field.now read more full

pub returns-in_default-clause-bad : goal.returns-in_default-clause-bad
returns-in_default-clause-bad c = λ is fields more read.
    let count = cells_in-length c.self.inside.count (row_bytes c.self.inside.bytes) in
    let inside : c.self.inside.count < length c.self.inside.schema.now.columns = let width = c.width.ensures.value in let test = c.if-self-width.false in omega arith in
    let at = c.index-columns-self.is ∙ ap (λ columns. get_or columns c.self.inside.count c.index-columns-self.result) c.columns.ensures in
    read_bad c.args.self.now c.self.inside.schema.now (cells_in c.self.inside.count (row_bytes c.self.inside.bytes)) c.self.view_is fields c.args.field.now read
    c.self.inside.count c.index-columns-self.result count inside at more (ap (λ (d : Column). cell_of d.kind c.args.field.now) c.index-columns-self.is ∙ sym c.in_default.ensures.exact)

pub invariant_of-self-2 : goal.invariant_of-self-2
invariant_of-self-2 c =
    let few = c.width.ensures.few in
    let test = c.if-self-width.false in
    (omega arith, more_fills c.self.inside.count _ _ _ c.self.invariant.1 c.in_ok-pack.ensures.more)

pub returns-clause-read : goal.returns-clause-read
returns-clause-read c = λ fields read.
    let count = cells_in-length c.self.inside.count (row_bytes c.self.inside.bytes) in
    let inside : c.self.inside.count < length c.self.inside.schema.now.columns = let width = c.width.ensures.value in let test = c.if-self-width.false in omega arith in
    let at = c.index-columns-self.is ∙ ap (λ columns. get_or columns c.self.inside.count c.index-columns-self.result) c.columns.ensures in
    let new = more_cells c.self.inside.count _ _ _ c.self.invariant.1 c.in_ok-pack.ensures.more in
    read_more c.args.self.now c.self.inside.schema.now (cells_in c.self.inside.count (row_bytes c.self.inside.bytes)) c.self.view_is fields c.args.field.now read
    c.self.inside.count c.index-columns-self.result count inside at (lent_cell c.in-Some.cell) _
    (ap (λ (d : Column). cell_of d.kind c.args.field.now) c.index-columns-self.is ∙ sym c.in-Some.ensures.exact) new
