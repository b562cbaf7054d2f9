use Rattle.std.specs.Vec.Iter.{into_iter_items}
use Rattle.loader.specs.Shares.{all_in}
use Rattle.loader.proofs.TriesLemmas.{Gathers}
use Rattle.loader.proofs.tries.trie_of_run.Given as goal

abbrev pub invariant-loop-share : goal.invariant-loop-share
invariant-loop-share g l = Gathers (all_in l.fn.run.shares.items) l.all (all_in (into_iter_items l.share-iterator))
