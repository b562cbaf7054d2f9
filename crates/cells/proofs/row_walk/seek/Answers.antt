use Rattle.cells.specs.Packing.{cells_in}
use Rattle.cells.proofs.PackingLemmas.{left_fills, left_on}
use Rattle.cells.proofs.row_walk.seek.Goals as goal

pub behind-requires-2-clause-fills : goal.behind-requires-2-clause-fills
behind-requires-2-clause-fills c = left_fills c.args.count c.args.from (cells_in c.args.count c.args.bytes.now) c.args.rest.now c.requires.left

pub returns : goal.returns
returns c =
    left_on c.args.count c.args.from c.args.index (cells_in c.args.count c.args.bytes.now) c.args.rest.now c.behind-2.result.now c.if-index-from.false
    c.requires.left c.behind-2.ensures
