-- What is read from a part, what a trie holds, and what is loaded from a list of parts.
use Rattle.std.specs.Prelude.{◌≡◌, ⊤, Bool, ℕ, List, Result, Ok, Err, length}
use Rattle.std.specs.List.{AllByRecursion}
use Rattle.cells.specs.CellOrder.{cell_cmp}
use Rattle.cells.specs.Fitting.{IsRowOf}
use Rattle.cells.specs.Tables.{AreRowsOf, keyed_rows, table}
use Rattle.cells.specs.Updates.{puts, rows}
use Rattle.cells.specs.Values.{RowValue, Table}
use Rattle.cells.specs.declared.cell.Cell.{Cell}
use Rattle.cells.specs.declared.refused.Refused.{Refused}
use Rattle.cells.specs.declared.refused.Refused.TheVariants as refused
use Rattle.trie.specs.Maps.{map_of}
use Rattle.loader.specs.Parts.{FaultyRecord, rows_of_part}
use Rattle.loader.specs.Shards.{taken}
use Rattle.loader.specs.Shares.{AreSpread, Pairs, lists}
use Rattle.loader.specs.declared.fault.PartFault.{PartFault}
use Rattle.loader.specs.declared.fault.PartFault.TheVariants.{Bad, OutOfMemory, NoWorker}
use Rattle.loader.specs.declared.part.Counted.{Counted}

-- a trie of rows, as contracts see it: each row beside its key
abbrev pub Held : Type 0
Held = List (Cell × RowValue)

-- the trie holds what these rows leave once they are put one after another, and each row that it holds may stand in the table
pub record HoldsPuts (t : Table) (rs : List RowValue) (held : Held) : Type 0 where
  pub map : map_of cell_cmp held ≡ table (rows (puts rs))
  pub fit : AreRowsOf t (map_of cell_cmp held)

-- rows are said, which may stand in the table, and these are those of them that are taken, each beside its key, spread over shares
pub record IsRead {E : Type 0} (hash_of : Cell → ℕ) (takes : Cell → Bool) (t : Table) (said : Result (List RowValue) E) (shares : List Pairs) : Type 0 where
  pub rs : List RowValue
  pub is : said ≡ Ok rs
  pub spread : AreSpread hash_of (keyed_rows (taken takes rs)) shares
  pub fit : AllByRecursion (IsRowOf t) rs

-- these are the rows that are said and taken, and so many are said
pub record AreCounted (hash_of : Cell → ℕ) (takes : Cell → Bool) (t : Table) (said : Result (List RowValue) ℕ) (counted : Counted) : Type 0 where
  pub read : IsRead hash_of takes t said (lists counted.rows.shares.items)
  pub count : counted.count ≡ length read.rs

-- the rows of a piece of a part that are taken, spread over shares, or the number of its first faulty record
abbrev pub Content : Type 0
Content = Result Counted ℕ

-- the rows that are said and taken, or the number of the faulty record that is said
abbrev pub IsContent : (Cell → ℕ) → (Cell → Bool) → Table → Result (List RowValue) ℕ → Content → Type 0
IsContent hash_of takes t said (Ok counted) = AreCounted hash_of takes t said counted
IsContent hash_of takes t said (Err number) = said ≡ Err number

-- a part's rows that are taken, or the number of its first faulty record
abbrev pub ReadsPart : (Cell → ℕ) → (Cell → Bool) → Table → List ℕ → Content → Type 0
ReadsPart hash_of takes t bytes content = IsContent hash_of takes t (rows_of_part t bytes) content

-- no record is faulty, and the trie holds what the rows leave that are said
pub record AreLoaded (said : Result (List RowValue) FaultyRecord) (held : Held) : Type 0 where
  pub rs : List RowValue
  pub is : said ≡ Ok rs
  pub map : map_of cell_cmp held ≡ table (rows (puts rs))

-- no record is faulty, and the trie holds what the rows leave that are said and taken
pub record AreTaken (takes : Cell → Bool) (said : Result (List RowValue) FaultyRecord) (held : Held) : Type 0 where
  pub rs : List RowValue
  pub is : said ≡ Ok rs
  pub map : map_of cell_cmp held ≡ table (rows (puts (taken takes rs)))

-- how the refusal of a worker, or of one to be started, keeps parts from being loaded
pub record KeepsFromLoading (late : Refused) (fault : PartFault) : Type 0 where
  pub memory : late ≡ refused.OutOfMemory → fault ≡ OutOfMemory
  pub worker : late ≡ refused.NoWorker → fault ≡ NoWorker

-- the rows that are said, or the faulty record that is said; nothing is said of memory and of threads
abbrev pub Loads : Result (List RowValue) FaultyRecord → Result Held PartFault → Type 0
Loads said (Ok held) = AreLoaded said held
Loads said (Err (Bad part entry)) = said ≡ Err (record { part = part; entry = entry })
Loads said (Err OutOfMemory) = ⊤
Loads said (Err NoWorker) = ⊤

-- the same of the rows that are taken: a faulty record is said, whatever its row would be
abbrev pub LoadsTaken : (Cell → Bool) → Result (List RowValue) FaultyRecord → Result Held PartFault → Type 0
LoadsTaken takes said (Ok held) = AreTaken takes said held
LoadsTaken takes said (Err (Bad part entry)) = said ≡ Err (record { part = part; entry = entry })
LoadsTaken takes said (Err OutOfMemory) = ⊤
LoadsTaken takes said (Err NoWorker) = ⊤
