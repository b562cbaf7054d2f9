-- How workers gather the rows of pieces.
use Rattle.std.proofs.Common.{◌≡◌, List, [], ap, flat_map, length, refl, sym, ◌∙◌}
use Rattle.std.specs.List.{range_with_len}
use Rattle.std.specs.Prelude.{slice_index_or}
use Rattle.std.proofs.lemmas.List.Folds.{flat_map-map}
use Rattle.std.proofs.lemmas.Simd.{pick_l_whole}
use Rattle.crew.specs.Gathering.{PieceValue, rows_at, rows_in}
use Rattle.groups.specs.Partials.{rows_of}

-- those at all places are the rows of all pieces
pub rows_at_all : (pieces : List PieceValue) → rows_at pieces (range_with_len 0 (length pieces)) ≡ rows_in pieces
rows_at_all pieces =
    sym (flat_map-map rows_of (λ place. slice_index_or pieces place []) (range_with_len 0 (length pieces))) ∙ ap (flat_map rows_of) (pick_l_whole [] pieces (length pieces) refl)
