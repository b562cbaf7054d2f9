use Rattle.std.proofs.Common.{List, take}
use Rattle.cells.specs.Values.{RowValue}
use Rattle.columns.specs.Columns.{Hold}
use Rattle.groups.specs.Keeping.{KeptBy}
use Rattle.query.specs.Trees.{And, predicates_of}
use Rattle.groups.proofs.keeping.kept_by_all.Given as goal

abbrev pub invariant-loop-predicate : goal.invariant-loop-predicate
invariant-loop-predicate l = (all : List RowValue) → Hold all l.columns → KeptBy (And (predicates_of (take l.predicate-index l.predicates))) all l.places l.kept.items
