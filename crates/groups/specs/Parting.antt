-- Groups cut into parts by the codes of a column.
use Rattle.std.specs.Prelude.{◌≡◌, ℕ, ◌+◌, ◌*◌, ◌<◌, ◌≤◌, ◌⊎◌, List, [], ◌∷◌, ◌++◌, length, map, slice_index_or, Option}
use Rattle.std.specs.List.{AllByRecursion, Contains}
use Rattle.cells.specs.declared.cell.Cell.{Cell}
use Rattle.columns.specs.Columns.{cell_of}
use Rattle.groups.specs.declared.parting.Part.{Part}

abbrev pub no_part : Part
no_part = record { group = 0; code = 0 }

-- the codes of these rows
abbrev pub codes_at : List ℕ → List ℕ → List ℕ
codes_at codes rows = map (λ row. slice_index_or codes row 0) rows

-- Rows of these groups, with these codes, are of the parts of these numbers: the part of a number is what the row has. Each part has a row
pub record AreParted (groups codes numbers : List ℕ) (parts : List Part) : Type 0 where
  pub within : AllByRecursion (λ n. n < length parts) numbers
  pub of_groups : map (λ n. (slice_index_or parts n no_part).group) numbers ≡ groups
  pub of_codes : map (λ n. (slice_index_or parts n no_part).code) numbers ≡ codes
  pub met : (n : ℕ) → n < length parts → Contains numbers n
  pub few : length parts ≤ length numbers

-- the most entries that a table of parts has for so many rows
abbrev pub entry_limit : ℕ → ℕ
entry_limit rows = 4 * rows + 65536

-- the part has this number among the new ones: it was there, or is the last of them
abbrev pub IsNumbered : Part → List Part → List Part → ℕ → Type 0
IsNumbered part old new n =
    ((new ≡ old) × (n < length old) × (slice_index_or old n no_part ≡ part)) ⊎ ((new ≡ old ++ part ∷ []) × (n ≡ length old))

-- each part is of one of so many groups
abbrev pub AreOfGroups : ℕ → List Part → Type 0
AreOfGroups groups parts = AllByRecursion (λ part. part.group < groups) parts

-- the tuples of parts: each is its group's with the cell of its code behind it
abbrev pub parted_tuples : List (List Cell) → Option (List Cell) → List Part → List (List Cell)
parted_tuples tuples cells parts = map (λ part. slice_index_or tuples part.group [] ++ cell_of cells part.code ∷ []) parts

-- the second list has at that place of the first the place
abbrev pub IsTurned : List ℕ → List ℕ → ℕ → Type 0
IsTurned first second n = (slice_index_or first n 0 < length second) × (slice_index_or second (slice_index_or first n 0) 0 ≡ n)

-- so many numbers in an order, and for each its place there
pub record AreTurned (count : ℕ) (order ranks : List ℕ) : Type 0 where
  pub ordered : length order ≡ count
  pub ranked : length ranks ≡ count
  pub there : (n : ℕ) → n < count → IsTurned order ranks n
  pub back : (n : ℕ) → n < count → IsTurned ranks order n
