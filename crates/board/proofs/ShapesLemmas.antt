-- The keys of a table's rows, each beside its row.
use Rattle.std.proofs.Common.{◌≡◌, List, [], ◌∷◌, length, map, refl, sym, ap, ◌∙◌}
use Rattle.std.specs.FinMap.{len}
use Rattle.std.specs.Map.{keys_of}
use Rattle.std.proofs.lemmas.List.{length-map}
use Rattle.cells.specs.Laws.{len_left}
use Rattle.cells.specs.Tables.{keyed_rows, table}
use Rattle.cells.specs.Updates.{AreLeft}
use Rattle.cells.specs.Values.{RowValue}

pub keys_of_rows : (rs : List RowValue) → keys_of (keyed_rows rs) ≡ map (λ r. r.key) rs
keys_of_rows [] = refl
keys_of_rows (r ∷ rs) = ap (λ ks. r.key ∷ ks) (keys_of_rows rs)

-- none comes twice
pub once : (rs : List RowValue) → AreLeft rs → len (table rs) ≡ length (keyed_rows rs)
once rs left = len_left rs left ∙ sym (length-map rs (λ r. (r.key, r)))
