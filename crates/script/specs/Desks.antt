-- Where lines have left a run: no table yet, or a keeper.
use Rattle.std.specs.Prelude.{◌≡◌, ℕ, ◌+◌, ◌^◌, ◌<◌, ◌≤◌, ◌⊎◌, List, [], ◌∷◌, length, Option, Some, None, Result, Ok, Err, ⊤, map as map_all}
use Rattle.std.specs.FinMap as map
use Rattle.cells.specs.Tables.{Rows, laid_over, table}
use Rattle.cells.specs.Updates.{puts, rows}
use Rattle.cells.specs.Values.{RowValue, Table}
use Rattle.cells.specs.declared.cell.Cell.{Cell}
use Rattle.cells.specs.declared.refused.Refused.TheVariants.{TooManyRows}
use Rattle.board.specs.Editions.{ChangesDraft, Editions}
use Rattle.board.specs.Editions as keeper
use Rattle.forms.specs.declared.form.Form.{Form}
use Rattle.script.specs.Givens.{Givens}
use Rattle.script.specs.Spelling.{refusal}
use Rattle.script.specs.declared.fault.Fault.{Fault}
use Rattle.script.specs.declared.fault.Fault.TheVariants.{Line}
use Rattle.script.specs.Output.{IsBlock, declared, edition, editions, published, updates}

-- the keeper stands where the lines have left it, of which the last one is the first
pub record Keeps (givens : Givens) (before : List (List ℕ)) (k : Editions) : Type 0 where
  pub schema : declared givens before ≡ Some (keeper.schema k)
  pub same_limit : keeper.limit k ≡ givens.limit
  pub draft : keeper.draft k ≡ table (rows (updates givens before))
  pub within : map.len (keeper.draft k) ≤ givens.limit
  pub edition : keeper.edition k ≡ edition givens before
  pub published : keeper.published k ≡ table (published givens before)
  pub history : keeper.history k ≡ map_all table (editions givens before)

-- a desk is behind these lines: there is a keeper where they declared a table
abbrev pub IsBehind : Givens → List (List ℕ) → Option Editions → Type 0
IsBehind givens before None = declared givens before ≡ None
IsBehind givens before (Some k) = Keeps givens before k

abbrev pub schema_of_desk : Option Editions → Option Table
schema_of_desk None = None
schema_of_desk (Some k) = Some (keeper.schema k)

-- the keeper has the same table, on the same board
pub record StaysSame (old new : Editions) : Type 0 where
  pub board : keeper.board new ≡ keeper.board old
  pub schema : keeper.schema new ≡ keeper.schema old

-- a keeper that is there stays
abbrev pub Stays : Option Editions → Option Editions → Type 0
Stays None new = ⊤
Stays (Some k) None = ⊥
Stays (Some k) (Some new) = StaysSame k new

-- the step of one line: it gives the line's block, and leaves a run that stands behind the line; a keeper stays
pub record Executes (hash : Cell → ℕ) (givens : Givens) (line : List ℕ) (number : ℕ) (old new : Option Editions) (bytes : List ℕ) : Type 0 where
  pub block : (before : List (List ℕ)) → IsBehind givens before old → number ≡ length before + 1 → IsBlock hash givens before line bytes
  pub stands : (before : List (List ℕ)) → IsBehind givens before old → IsBehind givens (line ∷ before) new
  pub stays : Stays old new

-- a keeper may publish once more
abbrev pub Publishable : Option Editions → Type 0
Publishable None = Unit {0}
Publishable (Some k) = keeper.edition k + 1 < 2 ^ 64

-- the draft has these rows, and the line writes nothing
pub record Lays (old new : Editions) (left : Rows) (bytes : List ℕ) : Type 0 where
  pub draft : ChangesDraft old new left
  pub within : map.len left ≤ keeper.limit old
  pub nothing : bytes ≡ []

-- there is no room for these rows, and the line is refused
pub record Overflows (form : Form) (old new : Editions) (left : Rows) (number : ℕ) (bytes : List ℕ) : Type 0 where
  pub unchanged : new ≡ old
  pub full : keeper.limit old < map.len left
  pub refused : bytes ≡ refusal form number (Line TooManyRows)

-- the draft has these rows, or there is no room for them
abbrev pub LaysOrOverflows : Form → Editions → Editions → Rows → ℕ → List ℕ → Type 0
LaysOrOverflows form old new left number bytes = Lays old new left bytes ⊎ Overflows form old new left number bytes

-- a row is laid over the draft, where there is room for it
abbrev pub PutsRow : Form → Editions → Editions → RowValue → ℕ → List ℕ → Type 0
PutsRow form old new row number bytes = LaysOrOverflows form old new (map.insert (keeper.draft old) row.key row) number bytes

-- the rows of a load are laid over the draft, where there is room for them; or the line is refused by its first fault
abbrev pub LoadsRows : Form → Editions → Editions → Result (List RowValue) Fault → ℕ → List ℕ → Type 0
LoadsRows form old new (Ok rs) number bytes = LaysOrOverflows form old new (laid_over (table (rows (puts rs))) (keeper.draft old)) number bytes
LoadsRows form old new (Err fault) number bytes = (new ≡ old) × (bytes ≡ refusal form number fault)

-- no line has made a keeper yet
abbrev pub IsFresh : Option Editions → Type 0
IsFresh desk = desk ≡ None
