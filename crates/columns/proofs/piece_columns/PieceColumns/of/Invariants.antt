use Rattle.columns.specs.Beside.{ArePlacesFor}
use Rattle.columns.proofs.piece_columns.PieceColumns.of.Given as goal

abbrev pub invariant-loop-index : goal.invariant-loop-index
invariant-loop-index g l = ArePlacesFor l.piece l.places.items
