use Rattle.columns.specs.Columns.{cells_at, rows_of}
use Rattle.columns.specs.Beside.{ArePlacesFor}
use Rattle.columns.proofs.HoldLemmas.{GoneOn}
use Rattle.columns.proofs.columns.Columns.take_kept.Given as goal

abbrev pub invariant-loop-place : goal.invariant-loop-place
invariant-loop-place g l = GoneOn (λ k. cells_at k (rows_of l.piece)) l.place l.fn.self l.self × ArePlacesFor l.piece l.kept.value.places.items
