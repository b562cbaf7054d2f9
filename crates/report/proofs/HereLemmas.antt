-- The columns of the rows of pieces that are taken one after another.
use Rattle.std.proofs.Common.{◌≡◌, ◌∙◌, ◌<◌, ◌+◌, ℕ, List, [], ◌∷◌, ◌++◌, length, ap, subst, sym, take}
use Rattle.std.proofs.lemmas.List.{append-nil, take_more}
use Rattle.std.proofs.lemmas.List.Concat.{flat_map-append}
use Rattle.std.specs.Prelude.{slice_index_or}
use Rattle.columns.specs.Columns.{ColumnsValue, HaveAll, Hold, has}
use Rattle.crew.specs.Gathering.{PieceValue, rows_in}
use Rattle.groups.specs.Partials.{rows_of}

-- columns of the same indexes
pub have_same : (indexes : List ℕ) (old new : ColumnsValue) → ((index : ℕ) → has new index ≡ has old index) → HaveAll indexes old → HaveAll indexes new
have_same [] old new same all = tt
have_same (index ∷ indexes) old new same all = (same index ∙ all.0, have_same indexes old new same all.1)

-- the rows of one piece more
rows_more : (pieces : List PieceValue) (i : ℕ) (other : PieceValue) → i < length pieces → rows_in (take (i + 1) pieces) ≡ rows_in (take i pieces) ++ rows_of (slice_index_or pieces i other)
rows_more pieces i other within =
    ap rows_in (take_more pieces i other within)
    ∙ flat_map-append rows_of (take i pieces) (slice_index_or pieces i other ∷ [])
    ∙ ap (λ rows. rows_in (take i pieces) ++ rows) (append-nil (rows_of (slice_index_or pieces i other)))

pub holds_more : (pieces : List PieceValue) (i : ℕ) (piece : PieceValue) (columns : ColumnsValue) → i < length pieces → piece ≡ slice_index_or pieces i piece → Hold (rows_in (take i pieces) ++ rows_of piece) columns → Hold (rows_in (take (i + 1) pieces)) columns
holds_more pieces i piece columns within is held =
    subst (λ rows. Hold rows columns) (ap (λ p. rows_in (take i pieces) ++ rows_of p) is ∙ sym (rows_more pieces i piece within)) held
