-- What the first cell of a tuple says of the tuple's place in the order of tuples.
use Rattle.std.specs.Prelude.{ℕ, ℤ, pos, List, [], ◌∷◌}
use Rattle.cells.specs.declared.cell.Cell.{Cell}
use Rattle.cells.specs.declared.cell.Cell.TheVariants.{Null, Int, Text}

-- NULL comes before the integers, and these before the texts
abbrev pub kind_of : Cell → ℕ
kind_of Null = 0
kind_of (Int n) = 1
kind_of (Text t) = 2

abbrev pub number_of : Cell → ℤ
number_of Null = pos 0
number_of (Int n) = n
number_of (Text t) = pos 0

abbrev pub first_kind : List Cell → ℕ
first_kind [] = 0
first_kind (cell ∷ cells) = kind_of cell

abbrev pub first_number : List Cell → ℤ
first_number [] = pos 0
first_number (cell ∷ cells) = number_of cell
