use Rattle.std.proofs.Common.{◌≡◌, ◌∙◌, ◌++◌, [], ◌∷◌, ap, arith, map, sym}
use Rattle.std.proofs.lemmas.List.{append-nil, nil_from_length}
use Rattle.std.specs.Vec.Iter.{into_iter_items}
use Rattle.report.specs.Watching.{up_to}
use Rattle.report.proofs.watching.ended.Goals as goal

pub returns : goal.returns
returns c =
    let iterator = c.loop-shot.shot-iterator in
    let none : into_iter_items iterator ≡ [] = nil_from_length (into_iter_items iterator) (omega (arith, iterator.rest.ok, c.in-None.ensures.steps.0)) in
    let made : c.loop-shot.all.items ≡ map (up_to c.args.last) c.args.shots.items =
    sym (ap (λ left. c.loop-shot.all.items ++ map (up_to c.args.last) left) none ∙ append-nil c.loop-shot.all.items) ∙ c.loop-shot.invariant in
    c.in_ok-push-2.ensures.items ∙ ap (λ all. all ++ c.args.last ∷ []) made
