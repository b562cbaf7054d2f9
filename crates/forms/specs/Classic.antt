-- The classic form of a report: a header, and a line for each row behind it. The texts of literals are those of ISO/IEC 9075-2:1999, 5.3; the
-- rest is this project's own.
use Rattle.std.specs.Prelude.{ℕ, List, [], ◌∷◌, ◌++◌, codes}
use Rattle.std.specs.List.{join_by}
use Rattle.cells.specs.Literals.{literal_of}
use Rattle.cells.specs.declared.total.Total.{Total}

-- what stands between two values of a line
abbrev pub separator : List ℕ
separator = codes " | "

-- values joined by separators, each by its text, and a line feed
abbrev pub line_of : {X : Type 0} → (X → List ℕ) → List X → List ℕ
line_of text values = join_by text separator values ++ 10 ∷ []

-- the headings of the report
abbrev pub header_text : List (List ℕ) → List ℕ
header_text headings = line_of (λ heading. heading) headings

-- a row as the literals of its values
abbrev pub row_text : List Total → List ℕ
row_text totals = line_of literal_of totals
