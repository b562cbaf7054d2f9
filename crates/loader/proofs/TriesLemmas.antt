-- The rows of shares as tries, put together.
use Rattle.std.proofs.Common.{◌≡◌, Option, Some, None, ℕ, List, [], ◌∷◌, ◌++◌, refl, ap, ap₂, sym, ◌∙◌}
use Rattle.std.proofs.lemmas.Grind.{flat_map-append}
use Rattle.std.proofs.lemmas.List.{append-nil}
use Rattle.std.proofs.lemmas.List.Folds.{flat_map-map}
use Rattle.std.proofs.lemmas.List.Sums.{fold-append}
use Rattle.std.specs.FinMap.{empty, get, insert, same_map}
use Rattle.std.specs.List.{flat_map}
use Rattle.std.specs.Option.{option_or}
use Rattle.std.specs.Prelude.{Vec}
use Rattle.std.specs.declared.alloc.Global.{Global}
use Rattle.std.specs.declared.cmp.Ordering.{Ordering}
use Rattle.cells.specs.CellOrder.{cell_cmp, cell_cmp-total}
use Rattle.cells.specs.SameKeys.{exact_cells}
use Rattle.cells.specs.Tables.{Rows, keyed_rows, laid_over}
use Rattle.cells.specs.Values.{RowValue}
use Rattle.cells.specs.declared.cell.Cell.{Cell}
use Rattle.trie.specs.Entries.{value_at}
use Rattle.trie.specs.Maps.{map_of}
use Rattle.trie.specs.Merging.{IsMerged, blended}
use Rattle.loader.specs.Loads.{Held}
use Rattle.loader.specs.Shares.{Pairs, all_in, in_shares, pairs_in}
use Rattle.loader.specs.Tries.{HoldsAll, HoldsShares, IsLaidOver, inserted}
use Rattle.loader.specs.declared.tries.Run.{Run}
use Rattle.loader.proofs.LatestLemmas.{laid_inserted, spread_leaves}
use Rattle.loader.proofs.PutsLemmas.{LaysRows, holds_all}

-- the rows of all runs
all_of_runs : (runs : List Run) → flat_map (λ run. all_in run.shares.items) runs ≡ all_in (flat_map (λ run. run.shares.items) runs)
all_of_runs [] = refl
all_of_runs (run ∷ runs) = ap (λ (l : Pairs). all_in run.shares.items ++ l) (all_of_runs runs)
    ∙ sym (flat_map-append (λ share. pairs_in share.items) run.shares.items (flat_map (λ run. run.shares.items) runs))

-- the rows of all runs, put together, are those that were spread
pub held_shares : LaysRows → (hash_of : Cell → ℕ) (shares : List (Vec (Vec (Cell × RowValue) Global) Global)) (runs : List Run) → flat_map (λ run. run.shares.items) runs ≡ shares →
    (all : Held) → HoldsAll (flat_map (λ run. all_in run.shares.items) runs) all → HoldsShares hash_of (in_shares shares) all
held_shares put hash_of shares runs cut all held = λ t rs spread fit.
    holds_all t put rs all fit (held ∙ ap (inserted empty) (all_of_runs runs ∙ ap all_in cut) ∙ ap (inserted empty) (sym (flat_map-map (λ (share : Pairs). share) (λ share. pairs_in share.items) shares))
    ∙ spread_leaves hash_of (keyed_rows rs) (in_shares shares) spread)

later_first : {A : Type 0} (x y : Option A) → blended (λ _ later. later) x y ≡ option_or y x
later_first None None = refl
later_first None (Some y) = refl
later_first (Some x) None = refl
later_first (Some x) (Some y) = refl

-- what is left of some rows, once those in front were put into a trie
abbrev pub Gathers : Pairs → Held → Pairs → Type 0
Gathers all held left = inserted (map_of cell_cmp held) left ≡ inserted empty all

-- the law of rows that lie over others
module _ (stands : (later earlier : Rows) (key : Cell) → get (laid_over later earlier) key ≡ option_or (get later key) (get earlier key)) where
  -- one trie more
  pub gathers_more : (all : Pairs) (held more both : Held) (old first left : Pairs) → Gathers all held old → old ≡ first ++ left → HoldsAll first more → IsLaidOver held more both →
      Gathers all both left
  gathers_more all held more both old first left so_far took holds laid =
      ap (λ (m : Rows). inserted m left) (laid ∙ ap (λ (later : Rows). laid_over later (map_of cell_cmp held)) holds ∙ laid_inserted stands (map_of cell_cmp held) first)
      ∙ sym (fold-append (λ (rows : Rows) (p : Cell × RowValue). insert rows p.0 p.1) (map_of cell_cmp held) first left)
      ∙ ap (inserted (map_of cell_cmp held)) (sym took) ∙ so_far

  -- what a merge by the later value makes lies the second over the first
  pub merged_over : (order : Cell → Cell → Ordering) → ((held : Held) (key : Cell) → get (map_of cell_cmp held) key ≡ value_at order held key) →
      (first second both : Held) → IsMerged order (λ _ later. later) first second both → IsLaidOver first second both
  merged_over order value first second both is = same_map cell_cmp-total exact_cells _ _ (λ key.
      value both key ∙ is.values key ∙ later_first (value_at order first key) (value_at order second key)
      ∙ sym (ap₂ option_or (value second key) (value first key)) ∙ sym (stands (map_of cell_cmp second) (map_of cell_cmp first) key))

-- what was begun of all, once none are left
pub begun_all : {X Y A : Type 0} (f : Y → List A) (h : X → List A) (begun : List Y) (left given runs : List X) → left ≡ [] → flat_map f begun ++ flat_map h left ≡ flat_map h given → given ≡ runs →
    flat_map f begun ≡ flat_map h runs
begun_all f h begun left given runs none all is =
    sym (append-nil (flat_map f begun)) ∙ ap (λ l. flat_map f begun ++ flat_map h l) (sym none) ∙ all ∙ ap (flat_map h) is
