use Rattle.std.proofs.Common.{◌++◌, ◌∷◌, [], ap, sym, ◌∙◌}
use Rattle.prepare.proofs.HeaderLemmas.{places_more}
use Rattle.prepare.proofs.header.all_places.Goals as goal

pub loop-place-preserved : goal.loop-place-preserved
loop-place-preserved c =
    c.in_ok-push.ensures.items ∙ ap (λ places. places ++ c.loop-place.place ∷ []) c.loop-place.invariant ∙ sym (places_more c.loop-place.place)
