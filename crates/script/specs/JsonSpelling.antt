-- What lines and viewers say in JSON: an object for each, in a line. The object of a report is closed by the report itself.
use Rattle.std.specs.Prelude.{ℕ, List, [], ◌∷◌, ◌++◌, codes, decimal}
use Rattle.std.specs.List.{join_by}
use Rattle.cells.specs.Refusals.{name_of, number_of}
use Rattle.cells.specs.declared.refused.Refused.{Refused}
use Rattle.cells.specs.declared.refused.Refused.TheVariants.{BadPart}
use Rattle.trie.specs.Shapes.{prefix_text}
use Rattle.script.specs.declared.fault.Fault.{Fault}
use Rattle.script.specs.declared.fault.Fault.TheVariants.{Line, Part}

-- the number of a rule, and its name
abbrev pub rule_members : Refused → List ℕ
rule_members rule = codes "\"refused\":" ++ (decimal (number_of rule) ++ (codes ",\"name\":\"" ++ (name_of rule ++ codes "\"")))

-- those of a fault, and for a faulty part which part and which record
abbrev pub fault_members : Fault → List ℕ
fault_members (Line rule) = rule_members rule
fault_members (Part part at) = rule_members BadPart ++ (codes ",\"part\":" ++ (decimal part ++ (codes ",\"record\":" ++ decimal at)))

-- the object of a refused line
abbrev pub refusal : ℕ → Fault → List ℕ
refusal number fault = codes "{\"line\":" ++ (decimal number ++ (codes "," ++ (fault_members fault ++ codes "}\n")))

-- how the object of a report or a shape begins
abbrev pub heading : ℕ → ℕ → List ℕ
heading number edition = codes "{\"line\":" ++ (decimal number ++ (codes ",\"edition\":" ++ (decimal edition ++ codes ",")))

-- a pair of a shape: the digits of a prefix, and how many keys share it
abbrev pub shape_pair : List ℕ × ℕ → List ℕ
shape_pair p = codes "[\"" ++ (prefix_text p.0 ++ (codes "\"," ++ (decimal p.1 ++ codes "]")))

-- what stands behind a shape's heading: a pair for each prefix that two keys share
abbrev pub shape_body : List (List ℕ × ℕ) → List ℕ
shape_body prefixes = codes "\"shape\":[" ++ (join_by shape_pair (44 ∷ []) prefixes ++ codes "]}\n")

-- the object that stands in place of all those of viewers
abbrev pub viewers_refused : Refused → List ℕ
viewers_refused fault = codes "{\"viewers\":\"refused\"," ++ (rule_members fault ++ codes "}\n")

-- how an object of a viewer begins
abbrev pub view_heading : ℕ → ℕ → List ℕ
view_heading viewer edition = codes "{\"viewer\":" ++ (decimal viewer ++ (codes ",\"edition\":" ++ (decimal edition ++ codes ",")))
