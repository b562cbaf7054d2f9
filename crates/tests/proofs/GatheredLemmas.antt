-- Two pieces of one row each at most are few enough to be gathered.
use Rattle.std.proofs.Common.{◌≡◌, ◌≤◌, List, [], ◌∷◌, length, arith}
use Rattle.std.specs.Prelude.{slice_index_or}
use Rattle.std.proofs.lemmas.List.{length-append, length-map}
use Rattle.aggs.specs.Room.{cell_limit}
use Rattle.crew.specs.Gathering.{PieceValue, rows_in}
use Rattle.groups.specs.Partials.{rows_of}

pub are_few : (pieces : List PieceValue) → length pieces ≡ 2 → length (slice_index_or pieces 0 []) ≤ 1 → length (slice_index_or pieces 1 []) ≤ 1 →
    length (rows_in pieces) ≤ cell_limit
are_few [] two one other = omega arith
are_few (first ∷ []) two one other = omega (arith, two)
are_few (first ∷ second ∷ []) two one other = omega (
  arith,
  one,
  other,
  length-append (rows_of first) (rows_in (second ∷ [])),
  length-append (rows_of second) [],
  length-map first (λ e. e.1),
  length-map second (λ e. e.1),
)
are_few (first ∷ second ∷ third ∷ rest) two one other = omega (arith, two)
