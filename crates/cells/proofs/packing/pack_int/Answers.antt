use Rattle.cells.specs.RowBytes.{row_bytes}
use Rattle.cells.proofs.PackingLemmas.{more_by, packed_large, packed_small}
use Rattle.cells.proofs.packing.pack_int.Goals as goal

pub returns-in-Ok-clause-more : goal.returns-in-Ok-clause-more
returns-in-Ok-clause-more c =
    more_by c.push.result _ (row_bytes c.args.bytes.now) _ _ c.push.ensures
    (packed_small c.args.n c.in-Ok.small c.to_le_bytes.result c.ranges.n c.in-Ok.ensures.0 c.in-Ok.ensures.1 c.to_le_bytes.ensures)

pub returns-in-Err-clause-more : goal.returns-in-Err-clause-more
returns-in-Err-clause-more c =
    more_by c.push-in-Err.result _ (row_bytes c.args.bytes.now) _ _ c.push-in-Err.ensures
    (packed_large c.args.n c.to_le_bytes-in-Err.result c.ranges.n c.to_le_bytes-in-Err.ensures)
