use Rattle.std.proofs.Common.{◌≡◌, ◌++◌, map, take}
use Rattle.prepare.proofs.header.with_chosen.Given as goal

abbrev pub invariant-loop-column : goal.invariant-loop-column
invariant-loop-column l = map (λ w. w.items) l.words.items ≡ map (λ w. w.items) l.fn.words.items ++ map (λ c. c.word) (take l.column-index l.columns)
