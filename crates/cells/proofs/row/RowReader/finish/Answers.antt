use Rattle.std.proofs.Common.{◌≡◌, ◌<◌, ◌≤◌, Some, ap, arith, inr, length, refl, slice_index_or, sym, ◌∙◌}
use Rattle.cells.specs.Lent.{lent_cell}
use Rattle.cells.specs.Packing.{cells_in}
use Rattle.cells.specs.RowBytes.{row_bytes}
use Rattle.cells.specs.declared.cell.Cell.TheVariants.{Null}
use Rattle.cells.proofs.FittingLemmas.{row_fits}
use Rattle.cells.proofs.PackingLemmas.{cells_in-length, fills_as, packed_as}
use Rattle.cells.proofs.RecordsLemmas.{finished, finished_early, finished_null}
use Rattle.cells.proofs.row.RowReader.finish.Goals as goal

pub returns-then-count-width-clause-exact : goal.returns-then-count-width-clause-exact
returns-then-count-width-clause-exact c = λ fields read.
    let xs = cells_in c.self.inside.count (row_bytes c.self.inside.bytes) in
    let few : length xs < length c.self.inside.schema.now.columns =
    let count = cells_in-length c.self.inside.count (row_bytes c.self.inside.bytes) in
    let width = c.width.ensures.value in
    let test = c.if-count-width.true in
    omega arith in
    inr (refl, finished_early c.args.self c.self.inside.schema.now xs c.key-key.result c.self.view_is c.key-key.ensures.place fields read few)

pub cell_at-requires : goal.cell_at-requires
cell_at-requires c = fills_as _ _ _ _ c.self.invariant.1 refl c.as_slice.ensures

pub returns-then-is_null-clause-exact : goal.returns-then-is_null-clause-exact
returns-then-is_null-clause-exact c = λ fields read.
    let xs = cells_in c.self.inside.count (row_bytes c.self.inside.bytes) in
    let at : slice_index_or xs c.key-key.result Null ≡ lent_cell c.cell_at.result =
    sym (c.cell_at.ensures ∙ ap (λ bytes. slice_index_or (cells_in c.self.inside.count bytes) c.key-key.result Null) c.as_slice.ensures) in
    let full : length c.self.inside.schema.now.columns ≤ length xs =
    let count = cells_in-length c.self.inside.count (row_bytes c.self.inside.bytes) in
    let width = c.width.ensures.value in
    let test = c.if-count-width.false in
    omega arith in
    inr (
      refl,
      finished_null c.args.self c.self.inside.schema.now xs c.key-key.result c.self.view_is c.key-key.ensures.place fields read full (at ∙ c.if-is_null.ensures.0 refl),
    )

pub returns-clause-exact : goal.returns-clause-exact
returns-clause-exact c = λ fields read.
    let xs = cells_in c.self.inside.count (row_bytes c.self.inside.bytes) in
    let at : slice_index_or xs c.key-key.result Null ≡ lent_cell c.cell_at.result =
    sym (c.cell_at.ensures ∙ ap (λ bytes. slice_index_or (cells_in c.self.inside.count bytes) c.key-key.result Null) c.as_slice.ensures) in
    let full : length c.self.inside.schema.now.columns ≤ length xs =
    let count = cells_in-length c.self.inside.count (row_bytes c.self.inside.bytes) in
    let width = c.width.ensures.value in
    let test = c.if-count-width.false in
    omega arith in
    finished c.args.self c.self.inside.schema.now xs c.key-key.result c.self.view_is c.key-key.ensures.place fields read full (λ null. let bad = c.if-is_null.ensures.1 (sym at ∙ null) in cc)
    ∙ ap Some (sym (packed_as c.key-key.result _ c.self.inside.count _ (row_bytes c.self.inside.bytes) _ c.of.ensures.key c.of.ensures.count c.of.ensures.bytes))

pub returns-clause-fits : goal.returns-clause-fits
returns-clause-fits c = λ fields read. row_fits c.args.self.table fields _ (returns-clause-exact c fields read)
