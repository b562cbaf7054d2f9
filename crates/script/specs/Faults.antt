-- What a refused line says.
use Rattle.std.specs.Prelude.{ℕ, List, ◌++◌, codes, decimal}
use Rattle.cells.specs.Refusals.{number_of}
use Rattle.cells.specs.declared.refused.Refused.TheVariants.{BadPart}
use Rattle.script.specs.declared.fault.Fault.{Fault}
use Rattle.script.specs.declared.fault.Fault.TheVariants.{Line, Part}

-- what stands behind `refused`: the number of the rule, and for a faulty part which part and which record
abbrev pub fault_text : Fault → List ℕ
fault_text (Line rule) = decimal (number_of rule)
fault_text (Part part at) = decimal (number_of BadPart) ++ (codes " part " ++ (decimal part ++ (codes " record " ++ decimal at)))
