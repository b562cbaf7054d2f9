use Rattle.std.proofs.lemmas.List.{take_more}
use Rattle.groups.specs.Told.{Keeps}
use Rattle.groups.proofs.ToldLemmas.{zip_more}
use Rattle.groups.proofs.accumulators.Accumulators.kept.Goals as goal

pub loop-held-preserved : goal.loop-held-preserved
loop-held-preserved g c =
    rw (c.in_ok-push.ensures.items, take_more c.deref-held-items.result.now c.loop-held.held-index c.held-item.result c.loop-held-test.true)
    (zip_more Keeps _ _ _ _ c.loop-held.invariant (record { keeps = rw (← c.held-item.is) c.in_ok-kept.ensures }))
