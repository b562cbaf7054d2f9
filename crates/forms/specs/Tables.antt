-- A report as a table for people: columns as wide as what stands in them, two blanks apart.
use Rattle.std.specs.Prelude.{ℕ, ◌&&◌, ◌==◌, ◌-◌, List, [], ◌∷◌, ◌++◌, Option, None, Some, codes, if◌then◌else◌, length, map, max, replicate, slice_get, slice_index}
use Rattle.std.specs.Fmt.{char_count, signed_decimal}
use Rattle.std.specs.List.{enumerate_from, flat_map, fold}
use Rattle.std.specs.Str.{chars}
use Rattle.cells.specs.declared.total.Total.{Total}
use Rattle.cells.specs.declared.total.Total.TheVariants.{Null, Int, Text}
use Rattle.forms.specs.Escapes.{plain_char}

-- ---- widths, which count characters

-- a text, character by character, so that it stays in its line
abbrev pub shown_text : List ℕ → List ℕ
shown_text text = flat_map plain_char (chars text)

abbrev pub shown : Total → List ℕ
shown Null = codes "NULL"
shown (Int n) = signed_decimal n
shown (Text text) = shown_text text

-- the width of a value, where there is one
abbrev pub width_of : Option Total → ℕ
width_of None = 0
width_of (Some total) = char_count (shown total)

abbrev pub greatest : List ℕ → ℕ
greatest = fold max 0

-- the greatest width of the heading at a place and of the values at that place in the rows
abbrev pub column_width : List (List Total) → ℕ × List ℕ → ℕ
column_width rows (place, heading) = greatest (char_count (shown_text heading) ∷ map (λ totals. width_of (slice_get totals place)) rows)

-- the width of each column
abbrev pub widths_of : List (List ℕ) → List (List Total) → List ℕ
widths_of headings rows = map (column_width rows) (enumerate_from 0 headings)

-- ---- lines

-- the bytes without the blanks at their end
abbrev pub without_end_blanks : List ℕ → List ℕ
without_end_blanks [] = []
without_end_blanks (b ∷ bs) = if b == 32 && length (without_end_blanks bs) == 0 then [] else b ∷ without_end_blanks bs

-- a cell, and two blanks before the next
abbrev pub gapped : List ℕ → List ℕ
gapped cell = cell ++ codes "  "

-- the cells, with no blank at the end of the line
abbrev pub line : List (List ℕ) → List ℕ
line cells = without_end_blanks (flat_map gapped cells) ++ 10 ∷ []

-- as many blanks as a column of this width is wider than the text
abbrev pub blanks : ℕ → List ℕ → List ℕ
blanks wide text = replicate (wide - char_count text) 32

-- a text at the left of its column
abbrev pub at_left : ℕ → List ℕ → List ℕ
at_left wide text = text ++ blanks wide text

-- a value in its column: an integer at the right, and any other at the left
abbrev pub cell_of : ℕ → Total → List ℕ
cell_of wide Null = at_left wide (shown Null)
cell_of wide (Int n) = blanks wide (signed_decimal n) ++ signed_decimal n
cell_of wide (Text text) = at_left wide (shown_text text)

-- these in their columns; a column that has no width has width 0
abbrev pub cells_of : {X : Type 0} → (ℕ → X → List ℕ) → List ℕ → List X → List (List ℕ)
cells_of cell widths values = map (λ at. cell (slice_index widths at.0) at.1) (enumerate_from 0 values)

-- the headings, and dashes under them
abbrev pub table_header : List ℕ → List (List ℕ) → List ℕ
table_header widths headings = line (cells_of (λ wide heading. at_left wide (shown_text heading)) widths headings) ++ line (map (λ wide. replicate wide 45) widths)

abbrev pub table_row : List ℕ → List Total → List ℕ
table_row widths totals = line (cells_of cell_of widths totals)
