use Rattle.std.proofs.Common.{subst, sym}
use Rattle.columns.specs.Beside.{ArePlacesFor, IsPlaceFor}
use Rattle.columns.proofs.HoldLemmas.{all_push}
use Rattle.columns.proofs.piece_columns.PieceColumns.of.Goals as goal

pub loop-index-preserved : goal.loop-index-preserved
loop-index-preserved g c =
    subst (ArePlacesFor c.args.piece.now) (sym c.in_ok-push.ensures.items)
    (all_push (IsPlaceFor c.args.piece.now) c.loop-index.places.items _ c.loop-index.invariant c.in_ok-place.ensures)
