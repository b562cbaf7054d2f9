-- Places for the columns of a piece of a table.
use Rattle.std.specs.Prelude.{◌≡◌, List}
use Rattle.std.specs.List.{AllByRecursion}
use Rattle.cells.specs.Values.{RowValue}
use Rattle.cells.specs.declared.cell.Cell.{Cell}
use Rattle.columns.specs.declared.piece_columns.Place.{Place}

-- the place is for the column of its index, of these entries
pub record IsPlaceFor (entries : List (Cell × RowValue)) (place : Place) : Type 0 where
  pub index : place.shelf.index ≡ place.index
  pub told : place.shelf.entries.items ≡ entries

-- so is each
abbrev pub ArePlacesFor : List (Cell × RowValue) → List Place → Type 0
ArePlacesFor entries places = AllByRecursion (IsPlaceFor entries) places
