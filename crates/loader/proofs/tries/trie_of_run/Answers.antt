use Rattle.std.proofs.Common.{◌∙◌, ap}
use Rattle.std.specs.FinMap.{empty}
use Rattle.std.specs.Vec.Iter.{into_iter_items}
use Rattle.loader.specs.Shares.{all_in, pairs_in}
use Rattle.loader.specs.Tries.{inserted}
use Rattle.loader.proofs.TriesLemmas.{gathers_more}
use Rattle.loader.proofs.tries.trie_of_run.Goals as goal

pub loop-share-preserved : goal.loop-share-preserved
loop-share-preserved g c =
    gathers_more c.later_puts_lie_over.ensures.stands (all_in c.args.run.shares.items) c.loop-share.all c.in_ok-more.more c.in_ok-all.all
    (all_in (into_iter_items c.loop-share.share-iterator)) (pairs_in c.in-Some-share.share.items) (all_in (into_iter_items c.next.new.self))
    c.loop-share.invariant (ap all_in c.in-Some-share.ensures.steps.0) (c.in_ok-more.ensures ∙ ap (inserted empty) c.in_ok-rows_of.ensures) c.in_ok-all.ensures
