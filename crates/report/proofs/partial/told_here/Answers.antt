use Rattle.std.proofs.Common.{◌∙◌}
use Rattle.groups.specs.Groups.{keeps, kept}
use Rattle.report.proofs.KeptLemmas.{filter_any_order}
use Rattle.report.proofs.PiecesLemmas.{listed_as}
use Rattle.report.proofs.partial.told_here.Goals as goal

pub returns : goal.returns
returns g c rs left same =
    let plan = c.args.plan.now in
    let made = c.in_ok-folding.ensures in
    let moved = listed_as c.a_map_has_its_entries.ensures _ made.list rs made.all left (c.root.ensures.rows ∙ same) in
    let folds = c.any_order.ensures.folds plan _ _ _ (filter_any_order (keeps plan.condition) made.list rs moved) made.folds in
    c.told.ensures plan (kept plan.condition rs) (c.in_ok-partial.ensures plan (kept plan.condition rs) folds)
