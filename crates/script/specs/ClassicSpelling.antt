-- What lines and viewers say in the classic form.
use Rattle.std.specs.Prelude.{ℕ, List, [], ◌∷◌, ◌++◌, codes, decimal}
use Rattle.std.specs.List.{flat_map}
use Rattle.cells.specs.Refusals.{number_of}
use Rattle.cells.specs.declared.refused.Refused.{Refused}
use Rattle.trie.specs.Shapes.{prefix_text}
use Rattle.script.specs.Faults.{fault_text}
use Rattle.script.specs.declared.fault.Fault.{Fault}

abbrev pub newline : List ℕ
newline = 10 ∷ []

-- the block of a refused line
abbrev pub refusal : ℕ → Fault → List ℕ
refusal number fault = codes "line " ++ (decimal number ++ (codes " refused " ++ (fault_text fault ++ newline)))

-- the first line of the block of a report or a shape
abbrev pub heading : ℕ → ℕ → List ℕ
heading number edition = codes "line " ++ (decimal number ++ (codes " edition " ++ (decimal edition ++ newline)))

-- a line of a shape: the digits of a prefix, and how many keys share it
abbrev pub shape_line : List ℕ × ℕ → List ℕ
shape_line p = prefix_text p.0 ++ (codes " " ++ (decimal p.1 ++ newline))

-- what stands behind a shape's heading: a line for each prefix that two keys share
abbrev pub shape_body : List (List ℕ × ℕ) → List ℕ
shape_body prefixes = flat_map shape_line prefixes

-- the line that stands in place of all blocks of viewers
abbrev pub viewers_refused : Refused → List ℕ
viewers_refused fault = codes "viewers refused " ++ (decimal (number_of fault) ++ newline)

-- the first line of a viewer's block
abbrev pub view_heading : ℕ → ℕ → List ℕ
view_heading viewer edition = codes "viewer " ++ (decimal viewer ++ (codes " edition " ++ (decimal edition ++ newline)))
