use Rattle.std.proofs.Common.{◌≡◌, ◌∷◌, []}
use Rattle.columns.specs.Columns.{cells_at}
use Rattle.columns.proofs.HoldLemmas.{GoneOn}
use Rattle.columns.proofs.columns.ColumnsVisitorCellRow.visit.Given as goal

-- the columns so far have the row's cell, and the walk is that over the row
abbrev pub invariant-loop-place : goal.invariant-loop-place
invariant-loop-place l = record {
  gone : GoneOn (λ k. cells_at k (l.row ∷ [])) l.place l.fn.self l.self;
  walk : l.cells ≡ l.row.cells;
}
