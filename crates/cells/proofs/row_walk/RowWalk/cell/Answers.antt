use Rattle.std.proofs.Common.{get_or, ap, arith, refl, sym, ◌∙◌}
use Rattle.std.proofs.lemmas.List.{get_or_past}
use Rattle.cells.specs.Packing.{cells_in}
use Rattle.cells.specs.declared.cell.Cell.TheVariants.{Null}
use Rattle.cells.proofs.PackingLemmas.{cells_in-length, fills_as, there_cell, there_first}
use Rattle.cells.proofs.row_walk.RowWalk.cell.Goals as goal

pub returns-then-index-self-clause-cell : goal.returns-then-index-self-clause-cell
returns-then-index-self-clause-cell c =
    let len = cells_in-length c.self.inside.count c.self.inside.bytes.now in
    let past = c.if-index-self.true in
    sym (ap (λ xs. get_or xs c.args.index Null) (sym c.self.view_is) ∙ get_or_past (cells_in c.self.inside.count c.self.inside.bytes.now) c.args.index Null (omega arith))

pub seek-rest-requires-clause-fills : goal.seek-rest-requires-clause-fills
seek-rest-requires-clause-fills c = fills_as _ _ _ _ c.self.invariant.0 refl refl

pub first_cell-requires : goal.first_cell-requires
first_cell-requires c = there_first c.self.inside.count c.args.index (cells_in c.self.inside.count c.self.inside.bytes.now) c.seek-rest.result.now c.if-index-self.false c.seek-rest.ensures

pub returns-clause-cell : goal.returns-clause-cell
returns-clause-cell c =
    c.first_cell.ensures
    ∙ there_cell c.self.inside.count c.args.index (cells_in c.self.inside.count c.self.inside.bytes.now) c.seek-rest.result.now c.if-index-self.false c.seek-rest.ensures
    ∙ ap (λ xs. get_or xs c.args.index Null) c.self.view_is
