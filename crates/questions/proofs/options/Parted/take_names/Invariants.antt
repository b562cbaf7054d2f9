use Rattle.std.proofs.Common.{◌≡◌, ◌++◌, map, string_bytes, take}
use Rattle.questions.specs.Options.{items_of, named}
use Rattle.questions.proofs.options.Parted.take_names.Given as goal

abbrev pub invariant-loop-word : goal.invariant-loop-word
invariant-loop-word l = items_of l.self ≡ items_of l.fn.self ++ map named (map string_bytes (take l.word-index l.words))
