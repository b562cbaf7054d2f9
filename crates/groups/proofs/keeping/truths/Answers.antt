use Rattle.std.proofs.Common.{◌≡◌, ◌++◌, ◌∷◌, [], ◌∙◌, ap, ap₂, map, rules, sym}
use Rattle.std.proofs.lemmas.List.{map_more}
use Rattle.cells.specs.TotalOrder.{cell_total}
use Rattle.groups.specs.Groups.{is_true}
use Rattle.groups.specs.Keeping.{cells_for, truth_for}
use Rattle.query.specs.Truth.{truth}
use Rattle.groups.proofs.keeping.truths.Goals.{in-True, in_default}
use Rattle.groups.proofs.keeping.truths.Goals as goal

pub loop-tuple-preserved : goal.loop-tuple-preserved
loop-tuple-preserved c =
    let f = truth_for c.args.predicate.now c.args.named.now c.args.width in
    let cells : c.as_slice.result.now ≡ cells_for c.args.named.now c.args.width c.tuple-item.result = c.as_slice.ensures.value ∙ c.in_ok-put_cells_for.ensures ∙ ap (cells_for c.args.named.now c.args.width) c.cells.ensures in
    let is : c.truth_of_cells-truth.result ≡ truth c.args.predicate.now (map cell_total (cells_for c.args.named.now c.args.width c.tuple-item.result)) =
    c.truth_of_cells-truth.ensures ∙ ap (λ cs. truth c.args.predicate.now (map cell_total cs)) cells in
    let one : c.match-matches.matches ≡ is_true c.truth_of_cells-truth.result = elim c.match-matches.branch [ in-True w ↦ search rules | in_default w ↦ search rules ] in
    c.in_ok-push.ensures.items ∙ ap₂ (λ bs b. bs ++ b ∷ []) c.loop-tuple.invariant (one ∙ ap is_true is ∙ ap f c.tuple-item.is)
    ∙ sym (map_more f c.args.tuples.now c.loop-tuple.tuple-index c.tuple-item.result c.loop-tuple-test.true)
