use Rattle.std.proofs.Common.{◌≡◌, ◌++◌}
use Rattle.std.specs.Vec.Iter.{into_iter_items}
use Rattle.loader.specs.Shares.{pairs_in}
use Rattle.loader.proofs.tries.rows_of.Given as goal

abbrev pub invariant-loop-more : goal.invariant-loop-more
invariant-loop-more l = l.rows.items ++ pairs_in (into_iter_items l.more-iterator) ≡ pairs_in l.fn.share.items
