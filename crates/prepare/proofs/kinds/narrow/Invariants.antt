use Rattle.csv.specs.Records.{fields_of}
use Rattle.prepare.proofs.TypesLemmas.{Narrowed}
use Rattle.prepare.proofs.kinds.narrow.Given as goal

abbrev pub invariant-loop-place : goal.invariant-loop-place
invariant-loop-place l = Narrowed l.initial.types l.types (fields_of l.row) l.place
