use Rattle.std.proofs.Common.{◌≡◌, length}
use Rattle.std.specs.Prelude.{string_bytes}
use denote.Text.{Utf8}
use denote.Shadow.{shadow}
use Rattle.script.specs.Parameters.{filled, filled_from}
use Rattle.script.proofs.ParametersLemmas.{before}
use Rattle.script.proofs.parameters.filled.Given as goal

-- what is full, and then the rest as it is filled, is the whole
abbrev pub invariant-loop-part : goal.invariant-loop-part
invariant-loop-part l = record {
  text : shadow (Utf8 l.rest);
  same : before (string_bytes l.full) (filled_from l.quoted l.left l.rest) ≡ filled l.fn.cells l.fn.query;
}

abbrev pub decreases-loop-part : goal.decreases-loop-part
decreases-loop-part l = length l.rest
