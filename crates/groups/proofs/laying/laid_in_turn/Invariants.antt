use Rattle.std.proofs.Common.{take}
use Rattle.groups.specs.Laying.{IsLaid}
use Rattle.groups.proofs.laying.laid_in_turn.Given as goal

abbrev pub invariant-loop-group : goal.invariant-loop-group
invariant-loop-group g l = IsLaid g.H.KeyHash-2.hash_of l.aggregations l.set (take l.group-index l.groups) l.trie
