use Rattle.std.proofs.Common.{◌∷◌, [], ap, subst, sym}
use Rattle.cells.specs.Lent.{lent_cell}
use Rattle.cells.specs.Packing.{IsPacked}
use Rattle.cells.specs.RowBytes.{row_bytes}
use Rattle.cells.proofs.PackingLemmas.{more_by, packed_null}
use Rattle.cells.proofs.packing.pack.Goals as goal

pub returns-in-Null-clause-more : goal.returns-in-Null-clause-more
returns-in-Null-clause-more c =
    let packed = subst (λ cell. IsPacked cell (0 ∷ [])) (sym (ap lent_cell c.in-Null.is)) packed_null in
    more_by c.push.result _ (row_bytes c.args.bytes.now) _ _ c.push.ensures packed
