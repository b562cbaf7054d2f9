use Rattle.std.proofs.Common.{◌≡◌}
use Rattle.groups.specs.Told.{pairs_of}
use Rattle.groups.proofs.ToldLemmas.{before}
use Rattle.groups.proofs.told.pairs_of.Given as goal

abbrev pub invariant-loop-group : goal.invariant-loop-group
invariant-loop-group g l = before l.pairs.items (pairs_of l.aggregations l.group-iterator.rest.items) ≡ pairs_of l.fn.aggregations l.fn.groups.items
