-- The rows of the pieces of a trie are those of its map.
use Rattle.std.proofs.Common.{◌≡◌, ◌≤◌, ℕ, List, [], ◌∷◌, ◌++◌, length, refl, sym, ap, ◌∙◌, arith}
use Rattle.std.specs.FinMap.{entries, len, values}
use Rattle.std.specs.List.{AllByRecursion, flat_map}
use Rattle.std.specs.List.Sorted.{IsPermutation}
use Rattle.std.proofs.lemmas.List.{length-append, length-map, map-append}
use Rattle.std.proofs.lemmas.List.Sorted.{IsPermutation-map, IsPermutation-sym, IsPermutation-trans}
use Rattle.board.specs.Editions.{IsListOf}
use Rattle.cells.specs.CellOrder.{cell_cmp}
use Rattle.cells.specs.Laws.{len_left}
use Rattle.cells.specs.Tables.{Rows, keyed_rows, table}
use Rattle.cells.specs.Updates.{AreLeft}
use Rattle.cells.specs.Values.{RowValue}
use Rattle.cells.specs.declared.cell.Cell.{Cell}
use Rattle.crew.specs.Gathering.{PieceValue, rows_in}
use Rattle.groups.specs.Partials.{rows_of}
use Rattle.trie.specs.Cuts.{IsPart}
use Rattle.trie.specs.Maps.{map_of}
use Rattle.report.specs.Pieces.{ArePiecesOf}

rows_of_keyed : (rs : List RowValue) → rows_of (keyed_rows rs) ≡ rs
rows_of_keyed [] = refl
rows_of_keyed (r ∷ rs) = ap (λ held. r ∷ held) (rows_of_keyed rs)

-- no key comes twice
once : (rs : List RowValue) → AreLeft rs → len (table rs) ≡ length (keyed_rows rs)
once rs left = len_left rs left ∙ sym (length-map rs (λ r. (r.key, r)))

-- the rows of entries that stand in pieces
rows_joined : (pieces : List PieceValue) → rows_of (flat_map (λ piece. piece) pieces) ≡ rows_in pieces
rows_joined [] = refl
rows_joined (piece ∷ pieces) = map-append (λ e. e.1) piece (flat_map (λ p. p) pieces) ∙ ap (λ rest. rows_of piece ++ rest) (rows_joined pieces)

-- pieces that have entries are no more than their rows
few_pieces : (hash : Cell → ℕ) (es : List (Cell × RowValue)) (pieces : List PieceValue) → AllByRecursion (IsPart hash es) pieces → length pieces ≤ length (rows_in pieces)
few_pieces hash es [] parts = omega arith
few_pieces hash es (piece ∷ pieces) parts = omega (
  arith,
  parts.0.some,
  few_pieces hash es pieces parts.1,
  length-append (rows_of piece) (rows_in pieces),
  length-map piece (λ (e : Cell × RowValue). e.1),
)

-- the trie's law: entries in which no key comes twice are those of their map
abbrev Moves : Type 0
Moves = (es : List (Cell × RowValue)) → len (map_of cell_cmp es) ≡ length es → IsPermutation es (entries (map_of cell_cmp es))

-- their rows, and those of the map
entries_list : Moves → (es : List (Cell × RowValue)) → len (map_of cell_cmp es) ≡ length es → IsPermutation (rows_of es) (values (map_of cell_cmp es))
entries_list moves es once = IsPermutation-map (λ (e : Cell × RowValue). e.1) es (entries (map_of cell_cmp es)) (moves es once)

-- what lists the rows of an edition moves what updates leave of them
pub listed_as : Moves → (rows : Rows) (list rs : List RowValue) → IsListOf rows list → AreLeft rs → rows ≡ table rs → IsPermutation list rs
listed_as moves rows list rs all left same =
    let keyed = rw (rows_of_keyed rs) at (entries_list moves (keyed_rows rs) (once rs left)) in
    IsPermutation-trans list (values rows) rs all.order (rw same (IsPermutation-sym rs (values (table rs)) keyed))

-- pieces that are the entries, joined in order
pub are_pieces : Moves → (rows : Rows) (es : List (Cell × RowValue)) → map_of cell_cmp es ≡ rows → len (map_of cell_cmp es) ≡ length es →
    (hash : Cell → ℕ) (pieces : List PieceValue) → AllByRecursion (IsPart hash es) pieces → flat_map (λ piece. piece) pieces ≡ es → ArePiecesOf rows pieces
are_pieces moves rows es is es_once hash pieces parts joined =
    let same : rows_of es ≡ rows_in pieces = ap rows_of (sym joined) ∙ rows_joined pieces in
    record {
      all = record {
        order = rw (← same, ← is) (entries_list moves es es_once);
        count = ap length (sym same) ∙ length-map es (λ e. e.1) ∙ sym es_once ∙ ap (λ (m : Rows). len m) is;
      };
      few = few_pieces hash es pieces parts;
    }
