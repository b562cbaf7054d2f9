-- Parts of groups, as groups and cells.
use Rattle.std.specs.Prelude.{◌≡◌, ℕ, ◌<◌, List, [], Vec, length, map, slice_index_or, Option}
use Rattle.std.specs.declared.alloc.Global.{Global}
use Rattle.cells.specs.declared.cell.Cell.{Cell}
use Rattle.columns.specs.Columns.{cell_of}
use Rattle.groups.specs.Tallying.{those_of}
use Rattle.groups.specs.declared.parting.Part.{Part}

-- the group of each part
abbrev pub groups_of_parts : List Part → List ℕ
groups_of_parts parts = map (λ part. part.group) parts

-- the cell of each part
abbrev pub cells_of_parts : Option (List Cell) → List Part → List Cell
cells_of_parts cells parts = map (λ part. cell_of cells part.code) parts

abbrev pub lists_of : {X : Type 0} → List (Vec X Global) → List (List X)
lists_of lists = map (λ list. list.items) lists

-- lists, one for each number below the count, of those of some things that have it
pub record AreListed {X : Type 0} (count : ℕ) (numbers : List ℕ) (xs : List X) (lists : List (List X)) : Type 0 where
  pub counted : length lists ≡ count
  pub each : (n : ℕ) → n < count → slice_index_or lists n [] ≡ those_of n numbers xs
