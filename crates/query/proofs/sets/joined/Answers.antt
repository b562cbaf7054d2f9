use Rattle.std.proofs.Common.{◌∙◌, None, append-nil, ap, refl, sym, ◌++◌}
use Rattle.std.proofs.lemmas.Slice.Zip.{either_empty_from_Zip}
use Rattle.query.proofs.MarksLemmas.{joined_end}
use Rattle.query.proofs.sets.joined.Goals as goal

pub returns : goal.returns
returns c =
    sym (c.loop-a.invariant ∙ ap (λ m. c.loop-a.marks.items ++ m) (joined_end _ _ (either_empty_from_Zip c.loop-a.a-iterator c.next.new.self None refl c.in-None.ensures.steps)) ∙ append-nil c.loop-a.marks.items)
