use Rattle.std.proofs.Common.{◌≡◌, ◌++◌}
use Rattle.std.specs.Map.{keys_of}
use Rattle.trie.specs.Holding.{lent}
use Rattle.aggs.proofs.distinct.CountDistinct.list.Given as goal

abbrev pub invariant-loop-entry : goal.invariant-loop-entry
invariant-loop-entry g l = l.cells.items ++ keys_of (lent l.entry-iterator.rest.items) ≡ keys_of (lent l.initial.entry-iterator.rest.items)
