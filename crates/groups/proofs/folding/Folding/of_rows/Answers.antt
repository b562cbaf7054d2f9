use Rattle.std.proofs.Common.{List, ap, subst, sym, ◌≡◌, ◌∙◌}
use Rattle.std.specs.Prelude.{IfOk, None}
use Rattle.cells.specs.Values.{RowValue}
use Rattle.groups.specs.Folds.{Folds}
use Rattle.groups.specs.Groups.{kept}
use Rattle.groups.specs.Numbered.{HaveRows, picked_rows}
use Rattle.groups.proofs.KeepingLemmas.{kept_all, still_have_rows}
use Rattle.groups.proofs.NeededLemmas.{serve_condition}
use Rattle.groups.proofs.folding.Folding.of_rows.Goals as goal

pub returns-in_default : goal.returns-in_default
returns-in_default g c = λ all held.
    let rows : List RowValue = picked_rows all c.args.rows.now in
    let none : c.args.plan.now.condition ≡ None = sym c.in_default.ensures in
    subst (λ l. IfOk c.of_all.result (Folds c.args.plan.now l)) (sym (ap (λ condition. kept condition rows) none ∙ kept_all rows)) (c.of_all.ensures all held)

pub kept_by-requires-clause-there : goal.kept_by-requires-clause-there
kept_by-requires-clause-there g c = serve_condition c.args.plan.now c.args.columns.now c.in-Some.predicate.now c.in-Some.ensures c.requires.serve

pub of_all-requires-2-clause-rows : goal.of_all-requires-2-clause-rows
of_all-requires-2-clause-rows g c =
    subst (HaveRows c.args.columns.now) (sym c.as_slice.ensures.value)
    (still_have_rows c.args.columns.now c.args.rows.now c.in_ok-kept.kept.items c.requires.rows c.in-Some.predicate.now c.in_ok-kept.ensures)
