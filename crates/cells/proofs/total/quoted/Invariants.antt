use Rattle.std.proofs.Common.{◌≡◌, ◌++◌, ◌∷◌, length, string_bytes}
use denote.Text.{Utf8}
use denote.Shadow.{shadow}
use Rattle.cells.specs.Spelling.{doubled}
use Rattle.cells.proofs.total.quoted.Given as goal

-- what is written, and then the rest with its quotes doubled, is the whole with its quotes doubled
abbrev pub invariant-loop-part : goal.invariant-loop-part
invariant-loop-part l = record {
  text : shadow (Utf8 l.rest);
  same : string_bytes l.literal ++ doubled l.rest ≡ 39 ∷ doubled l.fn.characters;
}

abbrev pub decreases-loop-part : goal.decreases-loop-part
decreases-loop-part l = length l.rest
