use Rattle.std.proofs.Common.{◌≡◌, map, take}
use Rattle.questions.proofs.question.owned.Given as goal

abbrev pub invariant-loop-name : goal.invariant-loop-name
invariant-loop-name l = l.copies.items ≡ map (λ n. n.now) (take l.name-index l.names)
