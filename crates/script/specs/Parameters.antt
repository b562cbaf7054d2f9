-- The parameters of a query: each `?` outside of quotes (a <dynamic parameter specification>, ISO/IEC 9075-2:1999, 6.3).
use Rattle.std.specs.Prelude.{◌≡◌, ℕ, ◌==◌, Bool, true, false, not, List, [], ◌∷◌, ◌++◌, Option, Some, None, option_and_then, option_map, if◌then◌else◌}
use Rattle.cells.specs.Literals.{literal_of}
use Rattle.cells.specs.TotalOrder.{cell_total}
use Rattle.cells.specs.declared.cell.Cell.{Cell}
use Rattle.cells.specs.declared.cell.Cell.TheVariants.{Int, Null, Text}

-- whether what follows a byte is in quotes, and what follows several
abbrev pub turned : Bool → ℕ → Bool
turned quoted b = if b == 39 then not quoted else quoted

abbrev pub is_quoted : Bool → List ℕ → Bool
is_quoted quoted [] = quoted
is_quoted quoted (b ∷ bs) = is_quoted (turned quoted b) bs

-- the literal of a cell, between blanks; NULL has none
abbrev pub literal_text : Cell → Option (List ℕ)
literal_text Null = None
literal_text (Int n) = Some (32 ∷ (literal_of (cell_total (Int n)) ++ 32 ∷ []))
literal_text (Text t) = Some (32 ∷ (literal_of (cell_total (Text t)) ++ 32 ∷ []))

-- what stands for a `?`, and the cells that are left: in quotes itself, else the literal of the next cell
abbrev pub at_mark : Bool → List Cell → Option (List ℕ × List Cell)
at_mark true cells = Some (63 ∷ [], cells)
at_mark false [] = None
at_mark false (cell ∷ cells) = option_map (λ text. (text, cells)) (literal_text cell)

-- no cell is left
abbrev pub at_end : List Cell → Option (List ℕ)
at_end [] = Some []
at_end (cell ∷ cells) = None

-- the text in which the literals of the cells stand for its parameters, in their order: of each cell one
abbrev pub filled_from : Bool → List Cell → List ℕ → Option (List ℕ)
filled_from quoted cells [] = at_end cells
filled_from quoted cells (b ∷ bs) =
    if b == 63 then option_and_then (λ x. option_map (λ more. x.0 ++ more) (filled_from quoted x.1 bs)) (at_mark quoted cells)
    else option_map (λ more. b ∷ more) (filled_from (turned quoted b) cells bs)

abbrev pub filled : List Cell → List ℕ → Option (List ℕ)
filled cells text = filled_from false cells text

-- what stands for a `?` was written behind a text, and these cells are left
pub record PutsMark (quoted : Bool) (cells : List Cell) (old new : List ℕ) (left : List Cell) : Type 0 where
  pub text : List ℕ
  pub stands : at_mark quoted cells ≡ Some (text, left)
  pub behind : new ≡ old ++ text
