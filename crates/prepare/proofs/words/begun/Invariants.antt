use Rattle.std.proofs.Common.{◌≡◌, ◌++◌, map, take}
use Rattle.prepare.specs.Words.{word_byte}
use Rattle.prepare.proofs.words.begun.Given as goal

abbrev pub invariant-loop-byte : goal.invariant-loop-byte
invariant-loop-byte l = l.word.items ≡ l.initial.word.items ++ map word_byte (take l.byte-index l.name)
