use Rattle.std.proofs.Common.{refl}
use Rattle.groups.proofs.KeepingLemmas.{cell_next}
use Rattle.groups.proofs.keeping.put_cells_for.Goals as goal

pub loop-index-preserved : goal.loop-index-preserved
loop-index-preserved c =
    cell_next c.args.named.now c.args.tuple.now c.args.tuple.now c.loop-index.index c.index_in.result c.in_ok-cell.cell c.loop-index.cells.items c.push.new.self.items
    refl c.index_in.ensures c.in_ok-cell.ensures c.loop-index.invariant c.in_ok-push.ensures.items
