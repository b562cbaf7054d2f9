use Rattle.std.proofs.Common.{◌≡◌, ◌++◌, length, map, string_bytes}
use Rattle.questions.specs.Options.{items, items_of}
use Rattle.questions.proofs.options.part_words.Given as goal

abbrev pub invariant-loop-word : goal.invariant-loop-word
invariant-loop-word l = items (map string_bytes l.words) ≡ items_of l.parted ++ items (map string_bytes l.rest)

abbrev pub decreases-loop-word : goal.decreases-loop-word
decreases-loop-word l = length l.rest
