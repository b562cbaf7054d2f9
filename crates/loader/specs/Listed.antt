-- What workers find at the places of the pieces of a list of parts.
use Rattle.std.specs.Prelude.{◌≡◌, ⊤, Bool, ℕ, List, Result, Ok, Err, slice_index_or}
use Rattle.std.specs.List.{AllZip}
use Rattle.cells.specs.Values.{RowValue, Table}
use Rattle.cells.specs.declared.cell.Cell.{Cell}
use Rattle.loader.specs.Loads.{IsContent, IsRead}
use Rattle.loader.specs.Parts.{FaultyRecord}
use Rattle.loader.specs.Pieces.{rows_of_piece}
use Rattle.loader.specs.Shares.{in_shares}
use Rattle.loader.specs.declared.fault.PartFault.{PartFault}
use Rattle.loader.specs.declared.fault.PartFault.TheVariants.{Bad, OutOfMemory, NoWorker}
use Rattle.loader.specs.declared.loading.Found.{Found}
use Rattle.loader.specs.declared.pieces.Piece.{Piece}
use Rattle.loader.specs.declared.shares.Shares.{Shares}

-- it was found at this place, and is what the piece there reads as
pub record IsFound (hash_of : Cell → ℕ) (takes : Cell → Bool) (t : Table) (pieces : List Piece) (place : ℕ) (found : Found) : Type 0 where
  pub at : found.place ≡ place
  pub reads : (other : Piece) → IsContent hash_of takes t (rows_of_piece t (slice_index_or pieces place other)) found.content

-- what the pieces read as, in their order
abbrev pub AreRead : (Cell → ℕ) → (Cell → Bool) → Table → List Piece → List Found → Type 0
AreRead hash_of takes t pieces all = AllZip (λ (piece : Piece) (found : Found). IsContent hash_of takes t (rows_of_piece t piece) found.content) pieces all

-- the rows of all parts that are taken, or the faulty record that is said
abbrev pub Lists : (Cell → ℕ) → (Cell → Bool) → Table → Result (List RowValue) FaultyRecord → Result Shares PartFault → Type 0
Lists hash_of takes t said (Ok shares) = IsRead hash_of takes t said (in_shares shares.shares.items)
Lists hash_of takes t said (Err (Bad part entry)) = said ≡ Err (record { part = part; entry = entry })
Lists hash_of takes t said (Err OutOfMemory) = ⊤
Lists hash_of takes t said (Err NoWorker) = ⊥
