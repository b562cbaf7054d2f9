use Rattle.std.proofs.Common.{◌≡◌, map, take}
use Rattle.prepare.proofs.part.lent.Given as goal

abbrev pub invariant-loop-word : goal.invariant-loop-word
invariant-loop-word l = map (λ f. f.now) l.fields.items ≡ map (λ w. w.items) (take l.word-index l.words)
