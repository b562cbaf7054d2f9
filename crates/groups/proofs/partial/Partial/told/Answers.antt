use Rattle.std.proofs.Common.{arith, subst, take, ◌≡◌, ◌∙◌}
use Rattle.std.proofs.lemmas.List.{take_all, take_more}
use Rattle.std.specs.List.{AllZip}
use Rattle.groups.proofs.ToldLemmas.{TellsLike, all_told, zip_more}
use Rattle.groups.proofs.partial.Partial.told.Goals as goal

pub loop-groups-preserved : goal.loop-groups-preserved
loop-groups-preserved g c =
    rw (c.in_ok-push.ensures.items, take_more c.deref-groups-items.result.now c.loop-groups.groups-index c.groups-item.result c.loop-groups-test.true)
    (zip_more (TellsLike g.H.KeyHash-2.hash_of) _ _ _ _ c.loop-groups.invariant (record { tells = rw (← c.groups-item.is) c.in_ok-set_groups.ensures }))

pub returns : goal.returns
returns g c = λ plan rows stands.
    let tries = c.deref-groups-items.result.now in
    let all : take c.loop-groups.groups-index tries ≡ c.args.self.now =
    take_all c.loop-groups.groups-index tries (omega (arith, c.loop-groups-test.false)) ∙ c.deref-groups-items.ensures.value ∙ c.self.view_is in
    all_told g.H.KeyHash-2.hash_of plan rows c.args.self.now c.loop-groups.sets.items stands
    (subst (λ l. AllZip (TellsLike g.H.KeyHash-2.hash_of) l c.loop-groups.sets.items) all c.loop-groups.invariant)
