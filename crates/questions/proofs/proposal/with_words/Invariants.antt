use Rattle.std.proofs.Common.{◌≡◌, ◌++◌, map, take}
use Rattle.questions.proofs.proposal.with_words.Given as goal

abbrev pub invariant-loop-column : goal.invariant-loop-column
invariant-loop-column l = l.names.items ≡ l.initial.names.items ++ map (λ c. c.word) (take l.column-index l.columns)
