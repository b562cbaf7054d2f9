-- The parts that a `load` line lists, and the rows that they hold.
use Rattle.std.specs.Prelude.{ℕ, zero, suc, ◌==◌, Bool, List, [], ◌∷◌, map, nat_lt, is_some, slice_get, sum_by, Option, Some, None, option_and_then, option_map, Result, Ok, Err, if◌then◌else◌}
use Rattle.std.specs.List.{list_all, slice_split}
use Rattle.cells.specs.Integers.{natural_of}
use Rattle.cells.specs.declared.refused.Refused.TheVariants.{BadCommand, Limit, NoPart}
use Rattle.loader.specs.Limits.{listed_limit}
use Rattle.cells.specs.Values.{RowValue, Table}
use Rattle.loader.specs.Parts.{FaultyRecord, part_len, rows_of_parts}
use Rattle.loader.specs.Parts as parts
use Rattle.script.specs.declared.fault.Fault.{Fault}
use Rattle.script.specs.declared.fault.Fault.TheVariants.{Line, Part}

-- what stands between single spaces
abbrev pub between_spaces : List ℕ → List (List ℕ)
between_spaces text = slice_split (λ b. b == 32) text

-- one or more digits
abbrev pub is_number : List ℕ → Bool
is_number text = is_some (natural_of text)

-- numbers, with one space between neighbours and nothing else
abbrev pub are_numbers : List ℕ → Bool
are_numbers text = list_all is_number (between_spaces text)

-- the part of a number, of those handed in; they are numbered from 1
abbrev pub part_numbered : List (List ℕ) → ℕ → Option parts.Part
part_numbered parts zero = None
part_numbered parts (suc n) = option_map (λ bytes. (suc n, bytes)) (slice_get parts n)

-- the part whose number a text spells
abbrev pub part_spelt : List (List ℕ) → List ℕ → Option parts.Part
part_spelt parts text = option_and_then (part_numbered parts) (natural_of text)

-- all of them, where each is there
abbrev pub all_there : {A : Type 0} → List (Option A) → Option (List A)
all_there [] = Some []
all_there (None ∷ later) = None
all_there (Some x ∷ later) = option_map (λ xs. x ∷ xs) (all_there later)

-- the parts, where each was handed in
abbrev pub handed_in : Option (List parts.Part) → Result (List parts.Part) Fault
handed_in None = Err (Line NoPart)
handed_in (Some listed) = Ok listed

-- parts of no more bytes than may be listed, counted at each listing
abbrev pub within_limit : Result (List parts.Part) Fault → Result (List parts.Part) Fault
within_limit (Err fault) = Err fault
within_limit (Ok listed) = if nat_lt listed_limit (sum_by part_len listed) then Err (Line Limit) else Ok listed

-- the parts that the rest of a `load` line lists, or its first fault
abbrev pub listed_in : List (List ℕ) → List ℕ → Result (List parts.Part) Fault
listed_in parts rest =
    if are_numbers rest then within_limit (handed_in (all_there (map (part_spelt parts) (between_spaces rest)))) else Err (Line BadCommand)

-- the rows that parts hold, or the first fault of them
abbrev pub rows_held : Result (List RowValue) FaultyRecord → Result (List RowValue) Fault
rows_held (Ok rs) = Ok rs
rows_held (Err faulty) = Err (Part faulty.part faulty.entry)

abbrev pub rows_of_listed : Table → Result (List parts.Part) Fault → Result (List RowValue) Fault
rows_of_listed t (Err fault) = Err fault
rows_of_listed t (Ok listed) = rows_held (rows_of_parts t listed)

-- the rows that a load puts, or its first fault: that of its listing, or that of its parts
abbrev pub rows_loaded : Table → List (List ℕ) → List ℕ → Result (List RowValue) Fault
rows_loaded t parts rest = rows_of_listed t (listed_in parts rest)
