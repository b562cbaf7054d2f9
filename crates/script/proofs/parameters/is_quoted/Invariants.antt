use Rattle.std.proofs.Common.{◌≡◌, drop}
use Rattle.script.specs.Parameters.{is_quoted}
use Rattle.script.proofs.parameters.is_quoted.Given as goal

abbrev pub invariant-loop-byte : goal.invariant-loop-byte
invariant-loop-byte l = is_quoted l.inside (drop l.byte-index l.part) ≡ is_quoted l.quoted l.part
