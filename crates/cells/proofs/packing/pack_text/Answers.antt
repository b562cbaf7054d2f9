use Rattle.std.proofs.Common.{◌∷◌, get_or, subst, sym}
use Rattle.cells.specs.Packing.{IsPacked}
use Rattle.cells.specs.RowBytes.{row_bytes}
use Rattle.cells.specs.declared.cell.Cell.TheVariants.{Text}
use Rattle.cells.proofs.PackingLemmas.{more_by, packed_short, packed_long}
use Rattle.cells.proofs.packing.pack_text.Goals as goal

pub returns-then-len-lt-LONG_BYTES-clause-more : goal.returns-then-len-lt-LONG_BYTES-clause-more
returns-then-len-lt-LONG_BYTES-clause-more c =
    more_by c.push.result _ (row_bytes c.args.bytes.now) _ _ c.push.ensures (packed_short c.args.text.bytes.now c.args.text.spelt c.if-len-lt-LONG_BYTES.true)

pub returns-clause-more : goal.returns-clause-more
returns-clause-more c =
    let text = c.args.text.bytes.now in
    let packed =
    subst (λ len. IsPacked (Text text) (255 ∷ get_or len 0 0 ∷ get_or len 1 0 ∷ text)) (sym c.to_le_bytes.ensures)
    (packed_long text c.args.text.spelt c.requires) in
    more_by c.push-2.result _ (row_bytes c.args.bytes.now) _ _ c.push-2.ensures packed
