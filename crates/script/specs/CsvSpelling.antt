-- What lines and viewers say in records of CSV. Each record begins with what the line is about.
use Rattle.std.specs.Prelude.{ℕ, List, ◌++◌, codes, decimal}
use Rattle.std.specs.List.{flat_map}
use Rattle.cells.specs.Refusals.{name_of, number_of}
use Rattle.cells.specs.declared.refused.Refused.{Refused}
use Rattle.cells.specs.declared.refused.Refused.TheVariants.{BadPart}
use Rattle.trie.specs.Shapes.{prefix_text}
use Rattle.script.specs.ClassicSpelling.{newline}
use Rattle.script.specs.declared.fault.Fault.{Fault}
use Rattle.script.specs.declared.fault.Fault.TheVariants.{Line, Part}

-- the number of a rule, and its name
abbrev pub rule_fields : Refused → List ℕ
rule_fields rule = decimal (number_of rule) ++ (codes "," ++ name_of rule)

-- those of a fault, and for a faulty part which part and which record
abbrev pub fault_fields : Fault → List ℕ
fault_fields (Line rule) = rule_fields rule
fault_fields (Part part at) = rule_fields BadPart ++ (codes ",part," ++ (decimal part ++ (codes ",record," ++ decimal at)))

-- the block of a refused line
abbrev pub refusal : ℕ → Fault → List ℕ
refusal number fault = codes "line," ++ (decimal number ++ (codes ",refused," ++ (fault_fields fault ++ newline)))

-- the first record of the block of a report or a shape
abbrev pub heading : ℕ → ℕ → List ℕ
heading number edition = codes "line," ++ (decimal number ++ (codes ",edition," ++ (decimal edition ++ newline)))

-- a record of a shape: the digits of a prefix, and how many keys share it
abbrev pub shape_line : List ℕ × ℕ → List ℕ
shape_line p = prefix_text p.0 ++ (codes "," ++ (decimal p.1 ++ newline))

-- what stands behind a shape's heading: a header, and a record for each prefix that two keys share
abbrev pub shape_body : List (List ℕ × ℕ) → List ℕ
shape_body prefixes = codes "prefix,keys\n" ++ flat_map shape_line prefixes

-- the record that stands in place of all blocks of viewers
abbrev pub viewers_refused : Refused → List ℕ
viewers_refused fault = codes "viewers,refused," ++ (rule_fields fault ++ newline)

-- the first record of a viewer's block
abbrev pub view_heading : ℕ → ℕ → List ℕ
view_heading viewer edition = codes "viewer," ++ (decimal viewer ++ (codes ",edition," ++ (decimal edition ++ newline)))
