use Rattle.cells.proofs.PackingLemmas.{fills_as}
use Rattle.cells.proofs.row.Row.cell.Goals as goal

pub cell_at-requires : goal.cell_at-requires
cell_at-requires c = fills_as _ _ _ _ c.self.invariant c.count.ensures c.bytes.ensures
