use Rattle.std.proofs.Common.{◌≡◌, length, string_bytes}
use denote.Text.{Utf8}
use denote.Shadow.{shadow}
use Rattle.cells.specs.Scanning.{after, unquoted}
use Rattle.cells.proofs.scan.unquoted.Given as goal

-- what was read, and then what the rest gives, is what the whole gives
abbrev pub invariant-loop-part : goal.invariant-loop-part
invariant-loop-part l = record {
  text : shadow (Utf8 l.rest);
  same : after (string_bytes l.front) (unquoted l.rest) ≡ unquoted l.fn.text;
}

abbrev pub decreases-loop-part : goal.decreases-loop-part
decreases-loop-part l = length l.rest
