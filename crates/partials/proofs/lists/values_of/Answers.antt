use Rattle.std.proofs.lemmas.List.{map-append, take_more}
use Rattle.serde_json.specs.View.{view}
use Rattle.partials.proofs.ListsLemmas.{zip_more}
use Rattle.partials.proofs.lists.values_of.Goals as goal

pub loop-item-preserved : goal.loop-item-preserved
loop-item-preserved g c =
    rw (c.in_ok-push.ensures.items, map-append view c.loop-item.values.items, take_more c.args.items.now c.loop-item.item-index c.item-item.result c.loop-item-test.true)
    (zip_more g.T.Spelt.spells _ _ _ _ c.loop-item.invariant (rw (← c.item-item.is) c.in_ok-value.ensures))
