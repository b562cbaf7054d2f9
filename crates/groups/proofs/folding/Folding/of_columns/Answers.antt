use Rattle.std.proofs.Common.{◌<◌, arith, subst, sym, ◌∙◌}
use Rattle.std.proofs.lemmas.List.FromFn.{length-range_with_len}
use Rattle.std.specs.List.{AllByRecursion, range_with_len}
use Rattle.groups.specs.Numbered.{HaveRows}
use Rattle.groups.proofs.FoldsLemmas.{folds_all}
use Rattle.groups.proofs.NeededLemmas.{all_within}
use Rattle.groups.proofs.folding.Folding.of_columns.Goals as goal

pub all_rows-requires : goal.all_rows-requires
all_rows-requires g c = c.requires.rows.few

pub of_rows-requires-clause-rows : goal.of_rows-requires-clause-rows
of_rows-requires-clause-rows g c =
    let it = c.requires.rows in
    subst (HaveRows c.args.columns.now) (sym (c.as_slice.ensures.value ∙ c.in_ok-rows.ensures)) (record {
      rows = it.rows;
      held = it.held;
      within = subst (λ n. AllByRecursion (λ i. i < n) (range_with_len 0 c.args.count)) (sym it.counted) (all_within c.args.count);
      few = omega (arith, length-range_with_len 0 c.args.count, it.few);
    })

pub returns : goal.returns
returns g c = λ rows held long.
    folds_all c.args.plan.now rows c.as_slice.result.now c.in_ok-rows.rows.items c.args.count c.in_ok-of_rows.field-0 (sym long)
    c.as_slice.ensures.value c.in_ok-rows.ensures (c.in_ok-of_rows.ensures rows held)
