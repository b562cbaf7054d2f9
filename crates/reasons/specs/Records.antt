-- Which records of a part are faulty.
use Rattle.std.specs.Prelude.{◌≡◌, ◌+◌, ℕ, Bool, List, [], ◌∷◌, IsSome, MatchOption, Option, Some, None, if◌then◌else◌}
use Rattle.cells.specs.Records.{row_of}
use Rattle.cells.specs.Values.{RowValue, Table}
use Rattle.loader.specs.Parts.{is_header}
use Rattle.loader.specs.Records.{records_of}

-- there is a fault exactly where no row is spelt
abbrev pub IsFaultOf : {F : Type 0} → Option RowValue → Option F → Type 0
IsFaultOf row fault = MatchOption fault (IsSome row) (λ _. row ≡ None)

-- a number, where there is no row
abbrev pub unless_row : Option RowValue → ℕ → List ℕ → List ℕ
unless_row None number later = number ∷ later
unless_row (Some row) number later = later

-- the numbers of the records that spell no row, where the first has this one
abbrev pub faulty_from : Table → ℕ → List (List (List ℕ)) → List ℕ
faulty_from t number [] = []
faulty_from t number (fields ∷ later) = unless_row (row_of t fields) number (faulty_from t (number + 1) later)

-- those of a part: 0, its header, alone where that names other columns or there is none
abbrev pub faulty_in : Table → List (List (List ℕ)) → List ℕ
faulty_in t [] = 0 ∷ []
faulty_in t (header ∷ later) = if is_header t.columns header then faulty_from t 1 later else 0 ∷ []

abbrev pub faulty_records : Table → List ℕ → List ℕ
faulty_records t bytes = faulty_in t (records_of bytes)

-- those that are looked at
abbrev pub looked_at : Bool → List ℕ → List ℕ
looked_at ended numbers = if ended then [] else numbers

-- those that are left to tell: that of the header, and those of the records where they are looked at
abbrev pub faults_left : Option ℕ → Bool → Table → ℕ → List (List (List ℕ)) → List ℕ
faults_left None ended t number records = looked_at ended (faulty_from t number records)
faults_left (Some header) ended t number records = header ∷ looked_at ended (faulty_from t number records)
