use Rattle.std.proofs.Common.{◌≡◌, ◌==◌, ◌++◌, length, map}
use Rattle.std.specs.List.{join_with_byte, slice_split}
use Rattle.command.specs.Naming.{resolved_word, resolved_words}
use Rattle.command.proofs.naming.push_words.Given as goal

abbrev pub invariant-loop-word : goal.invariant-loop-word
invariant-loop-word l = l.text.items ++ join_with_byte 32 (map (resolved_word l.names) (slice_split (λ b. b == 32) l.left)) ≡ l.initial.text.items ++ resolved_words l.names l.words

abbrev pub decreases-loop-word : goal.decreases-loop-word
decreases-loop-word l = length l.left
