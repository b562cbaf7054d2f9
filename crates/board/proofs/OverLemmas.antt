-- The rows of one trie laid over those of another.
use Rattle.std.proofs.Common.{◌≡◌, Option, Some, None, List, refl, ap₂, sym, ◌∙◌, Ordering}
use Rattle.std.specs.FinMap.{get, same_map}
use Rattle.std.specs.Option.{option_or}
use Rattle.cells.specs.CellOrder.{cell_cmp, cell_cmp-total}
use Rattle.cells.specs.SameKeys.{exact_cells}
use Rattle.cells.specs.Tables.{Rows, laid_over}
use Rattle.cells.specs.Values.{RowValue}
use Rattle.cells.specs.declared.cell.Cell.{Cell}
use Rattle.trie.specs.Entries.{value_at}
use Rattle.trie.specs.Maps.{map_of}
use Rattle.trie.specs.Merging.{IsMerged, blended}

later_stands : (x y : Option RowValue) → blended (λ a b. b) x y ≡ option_or y x
later_stands None None = refl
later_stands None (Some y) = refl
later_stands (Some x) None = refl
later_stands (Some x) (Some y) = refl

-- where the later value stands at each key, the maps are laid one over the other
pub merged_over : (order : Cell → Cell → Ordering) → ((es : List (Cell × RowValue)) (q : Cell) → get (map_of cell_cmp es) q ≡ value_at order es q) →
    ((later earlier : Rows) (q : Cell) → get (laid_over later earlier) q ≡ option_or (get later q) (get earlier q)) →
    (es fs ms : List (Cell × RowValue)) → IsMerged order (λ a b. b) es fs ms → map_of cell_cmp ms ≡ laid_over (map_of cell_cmp fs) (map_of cell_cmp es)
merged_over order value stands es fs ms merged = same_map cell_cmp-total exact_cells _ _ (λ q.
    value ms q ∙ merged.values q
    ∙ later_stands (value_at order es q) (value_at order fs q)
    ∙ ap₂ option_or (sym (value fs q)) (sym (value es q))
    ∙ sym (stands (map_of cell_cmp fs) (map_of cell_cmp es) q))
