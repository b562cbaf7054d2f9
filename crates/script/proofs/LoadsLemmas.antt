-- Rows of a load, laid over a draft.
use Rattle.std.proofs.Common.{ℕ, List, Result, subst, sym}
use Rattle.board.specs.Editions.{Editions}
use Rattle.board.specs.Editions as keeper
use Rattle.cells.specs.CellOrder.{cell_cmp}
use Rattle.cells.specs.Tables.{laid_over}
use Rattle.cells.specs.Values.{RowValue}
use Rattle.cells.specs.declared.cell.Cell.{Cell}
use Rattle.forms.specs.declared.form.Form.{Form}
use Rattle.loader.specs.Loads.{AreLoaded}
use Rattle.loader.specs.Parts.{FaultyRecord}
use Rattle.script.specs.Desks.{LaysOrOverflows, LoadsRows}
use Rattle.script.specs.Listings.{rows_held}
use Rattle.trie.specs.Maps.{map_of}

pub loads_held : {form : Form} (old new : Editions) (said : Result (List RowValue) FaultyRecord) (held : List (Cell × RowValue)) (number : ℕ) (bytes : List ℕ) → AreLoaded said held →
    LaysOrOverflows form old new (laid_over (map_of cell_cmp held) (keeper.draft old)) number bytes → LoadsRows form old new (rows_held said) number bytes
loads_held {form = form} old new said held number bytes loaded lays =
    subst (λ s. LoadsRows form old new (rows_held s) number bytes) (sym loaded.is)
    (subst (λ m. LaysOrOverflows form old new (laid_over m (keeper.draft old)) number bytes) loaded.map lays)
