use Rattle.std.specs.List.{AllByRecursion}
use Rattle.std.specs.Vec.Iter.{into_iter_items}
use Rattle.columns.specs.Columns.{rows_of}
use Rattle.columns.proofs.HoldLemmas.{IsColumn}
use Rattle.columns.proofs.columns.Columns.put_beside.Given as goal

abbrev pub invariant-loop-named : goal.invariant-loop-named
invariant-loop-named g l = AllByRecursion (IsColumn (rows_of l.piece)) (into_iter_items l.named-iterator)
