use Rattle.std.proofs.Common.{map}
use Rattle.groups.proofs.ColumnarLemmas.{ListedTo}
use Rattle.groups.proofs.columnar.listed.Given as goal

abbrev pub invariant-loop-tuple : goal.invariant-loop-tuple
invariant-loop-tuple g l = ListedTo l.fn.tuples.items (map (λ accs. accs.items) l.tallies) l.groups.items l.tuple-iterator.rest.items
