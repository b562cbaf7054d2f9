use Rattle.std.proofs.Common.{◌≡◌, None, map, take}
use Rattle.command.proofs.naming.Parts.unnamed.Given as goal

abbrev pub invariant-loop-file : goal.invariant-loop-file
invariant-loop-file l = l.names.items ≡ map (λ file. None) (take l._file-index l._file-items)
