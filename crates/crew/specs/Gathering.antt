-- Rows of a table, as workers share them, and what is made of parts of them.
use Rattle.std.specs.Prelude.{◌≤◌, ℕ, List, [], IsPermutation, length, slice_index_or}
use Rattle.std.specs.List.{AllZip, flat_map}
use Rattle.aggs.specs.Room.{cell_limit}
use Rattle.cells.specs.Values.{RowValue}
use Rattle.cells.specs.declared.cell.Cell.{Cell}
use Rattle.groups.specs.Folds.{Folds}
use Rattle.groups.specs.Groups.{kept}
use Rattle.groups.specs.Partials.{rows_of}
use Rattle.groups.specs.declared.folding.Folding.{Folding}
use Rattle.query.specs.Plans.{PlanTree}

-- a piece of a table: its rows, each under its key
abbrev pub PieceValue : Type 0
PieceValue = List (Cell × RowValue)

-- the rows of all pieces
abbrev pub rows_in : List PieceValue → List RowValue
rows_in pieces = flat_map rows_of pieces

-- the rows of the piece at a place
abbrev pub rows_at_place : List PieceValue → ℕ → List RowValue
rows_at_place pieces place = rows_of (slice_index_or pieces place [])

-- the rows of the pieces at these places, in this order
abbrev pub rows_at : List PieceValue → List ℕ → List RowValue
rows_at pieces places = flat_map (rows_at_place pieces) places

-- of parts, each of which has a place, the rows at these places for which WHERE is true
abbrev pub kept_at : PlanTree → (ℕ → List RowValue) → List ℕ → List RowValue
kept_at plan part places = flat_map (λ place. kept plan.condition (part place)) places

-- each was made of some of the rows, and together these are all rows, in some order
pub record AreMadeOf {Made : Type 0} (makes : List RowValue → Made → Type 0) (all : List RowValue) (made : List Made) : Type 0 where
  pub parts : List (List RowValue)
  pub whole : IsPermutation (flat_map (λ part. part) parts) all
  pub each : AllZip makes parts made

-- it was made of all rows, in some order
pub record IsMadeOf {Made : Type 0} (makes : List RowValue → Made → Type 0) (all : List RowValue) (made : Made) : Type 0 where
  pub rows : List RowValue
  pub order : IsPermutation rows all
  pub held : makes rows made

-- rows of the plan went into the foldings, and they are few enough together
pub record MayBeJoined {H : Type 0} (plan : PlanTree) (foldings : List (Folding H)) : Type 0 where
  pub rows : List RowValue
  pub made : AreMadeOf (Folds plan) rows foldings
  pub few : length rows ≤ cell_limit
