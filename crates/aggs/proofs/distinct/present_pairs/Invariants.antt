use Rattle.std.proofs.Common.{◌≡◌, ◌++◌}
use Rattle.std.specs.Map.{keys_of}
use Rattle.aggs.specs.Values.{present}
use Rattle.aggs.proofs.distinct.present_pairs.Given as goal

abbrev pub invariant-loop-cell : goal.invariant-loop-cell
invariant-loop-cell l = keys_of l.pairs.items ++ present l.cell-iterator.rest.items ≡ present l.fn.cells.items
