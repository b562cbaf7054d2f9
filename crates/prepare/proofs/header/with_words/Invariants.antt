use Rattle.std.proofs.Common.{◌≡◌, ◌++◌, map, take}
use Rattle.prepare.specs.Words.{word_of}
use Rattle.prepare.proofs.header.with_words.Given as goal

abbrev pub invariant-loop-name : goal.invariant-loop-name
invariant-loop-name l = map (λ w. w.items) l.words.items ≡ map (λ w. w.items) l.fn.words.items ++ map word_of (map (λ f. f.now) (take l.name-index l.header))
