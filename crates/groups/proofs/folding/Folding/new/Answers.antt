use Rattle.std.proofs.Common.{ap, refl, subst, ◌∙◌}
use Rattle.groups.specs.Accumulators.{aggregations_of}
use Rattle.groups.specs.Pools.{AreSources}
use Rattle.groups.proofs.FoldsLemmas.{folds_none}
use Rattle.groups.proofs.folding.Folding.new.Goals as goal

pub returns : goal.returns
returns g c =
    folds_none c.args.plan.now _ refl (c.in_ok-aggregations.ensures ∙ ap aggregations_of c.items.ensures.items)
    (subst (λ sets. AreSources sets c.in_ok-sources.sources.items) c.sets.ensures c.in_ok-sources.ensures)
