use Rattle.std.proofs.Common.{take}
use Rattle.command.specs.Naming.{AreNamed}
use Rattle.command.proofs.naming.Parts.named.Given as goal

abbrev pub invariant-loop-word : goal.invariant-loop-word
invariant-loop-word l = AreNamed l.fn.files.items (take l.word-index l.words) l.parts.files.items l.parts.names.items
