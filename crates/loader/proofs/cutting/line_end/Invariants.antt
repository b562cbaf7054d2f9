use Rattle.std.proofs.Common.{◌<◌, ◌≤◌, ℕ}
use Rattle.loader.specs.Cuts.{IsLineEnd}
use Rattle.loader.proofs.cutting.line_end.Given as goal

abbrev pub invariant-loop-at : goal.invariant-loop-at
invariant-loop-at l = record {
  front : l.size ≤ l.at;
  none : (place : ℕ) → l.size ≤ place → place < l.at → IsLineEnd l.bytes place → ⊥;
}
