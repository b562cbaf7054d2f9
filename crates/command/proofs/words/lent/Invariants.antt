use Rattle.std.proofs.Common.{◌≡◌, map, take}
use Rattle.std.specs.Prelude.{string_bytes}
use Rattle.command.proofs.words.lent.Given as goal

abbrev pub invariant-loop-string : goal.invariant-loop-string
invariant-loop-string l = map (λ w. w.now) l.texts.items ≡ map string_bytes (take l.string-index l.strings)
