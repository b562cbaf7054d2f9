-- Which field of a record is at fault.
use Rattle.std.specs.Prelude.{◌≡◌, ◌≢◌, ◌⊎◌, ◌++◌, ◌∷◌, ℕ, List, None, Some, length, map, slice_get, take}
use Rattle.std.specs.Borrow.{Bor}
use Rattle.cells.specs.Records.{row_of}
use Rattle.cells.specs.RowReading.{HasRead, RowStart}
use Rattle.cells.specs.Values.{Table}
use Rattle.reasons.specs.declared.record_fault.RecordFault.{RecordFault}
use Rattle.reasons.specs.declared.record_fault.RecordFault.TheVariants.{Fields, Field}

abbrev pub bytes_of : List (Bor (List ℕ)) → List (List ℕ)
bytes_of fields = map (λ f. f.now) fields

-- a row of the table may begin with these fields: each spells a cell of its column
abbrev pub BeginRow : Table → List (List ℕ) → Type 0
BeginRow t fields = (start : RowStart) × (start.table ≡ t) × HasRead fields start

-- the field at the place is the first with which no row begins, whatever follows
pub record IsFirstBad (t : Table) (fields : List (Bor (List ℕ))) (place : ℕ) : Type 0 where
  pub before : BeginRow t (bytes_of (take place fields))
  pub bad : (f : Bor (List ℕ)) (more : List (List ℕ)) → slice_get fields place ≡ Some f → row_of t (bytes_of (take place fields) ++ f.now ∷ more) ≡ None

-- the fault is at the field of this place
abbrev pub IsAt : ℕ → RecordFault → Type 0
IsAt at (Fields found wanted) = ⊥
IsAt at (Field place column fault) = place ≡ at

-- the fault is the number of fields; or else it is at the first field that spells no cell, or where each spells one at
-- the key
abbrev pub Explains : Table → List (Bor (List ℕ)) → RecordFault → Type 0
Explains t fields (Fields found wanted) = (found ≡ length fields) × (wanted ≡ length t.columns) × (found ≢ wanted)
Explains t fields (Field place column fault) = (length fields ≡ length t.columns) × (IsFirstBad t fields place ⊎ ((place ≡ t.key) × BeginRow t (bytes_of fields)))
