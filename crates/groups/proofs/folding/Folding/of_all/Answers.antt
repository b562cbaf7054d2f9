use Rattle.std.proofs.Common.{refl, subst, sym, ◌∙◌, ap}
use Rattle.std.specs.List.{AllByRecursion}
use Rattle.columns.specs.Columns.{HaveAll}
use Rattle.groups.specs.Needed.{read_by_all}
use Rattle.groups.specs.Numbered.{picked_rows}
use Rattle.groups.specs.Pools.{IsPool, sets_of}
use Rattle.groups.proofs.FoldsLemmas.{folds_rows}
use Rattle.groups.proofs.NeededLemmas.{serve_read, serve_sets, sets_among}
use Rattle.groups.proofs.folding.Folding.of_all.Goals as goal

pub sources_from-requires-clause-sets : goal.sources_from-requires-clause-sets
sources_from-requires-clause-sets g c =
    subst (λ l. AllByRecursion (λ set. HaveAll set c.args.columns.now) (sets_of l)) (sym c.as_slice-2.ensures.value)
    (sets_among c.args.columns.now c.args.plan.now.sets (sets_of c.in_ok-none.none.sources.items) (c.in_ok-none.ensures).among (serve_sets c.args.plan.now c.args.columns.now c.requires.serve))

pub sources_from-requires-clause-read : goal.sources_from-requires-clause-read
sources_from-requires-clause-read g c =
    subst (λ l. HaveAll (read_by_all l) c.args.columns.now) (sym (c.as_slice.ensures.value ∙ (c.in_ok-none.ensures).aggregations)) (serve_read c.args.plan.now c.args.columns.now c.requires.serve)

pub returns : goal.returns
returns g c = λ all held.
    let rows = picked_rows all c.args.rows.now in
    folds_rows c.args.plan.now rows c.in_ok-none.none _ c.in_ok-none.ensures refl refl (c.in_ok-sources.ensures.sets ∙ ap sets_of c.as_slice-2.ensures.value)
    (subst (λ a. IsPool a rows c.in_ok-sources.sources.items) c.as_slice.ensures.value (c.in_ok-sources.ensures.pool all held))
