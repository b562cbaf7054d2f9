use Rattle.std.proofs.Common.{rules, ap, ◌++◌, ◌∙◌}
use Rattle.groups.proofs.NeededLemmas.{sets_next}
use Rattle.groups.proofs.needed.add_sets.Goals as goal

pub loop-set-preserved : goal.loop-set-preserved
loop-set-preserved c =
    sets_next c.args.sets.now c.loop-set.set-index c.set-item.result c.args.needed.now.items c.loop-set.needed.items c.extend_from_slice.new.self.items c.loop-set-test.true (search rules) c.loop-set.invariant
    (c.in_ok-extend_from_slice.ensures.items ∙ ap (λ l. c.loop-set.needed.items ++ l) (c.as_slice.ensures.value ∙ c.set.view_is))
