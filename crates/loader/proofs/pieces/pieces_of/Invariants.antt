use Rattle.std.proofs.Common.{◌≤◌, ◌+◌, drop, length, map}
use Rattle.crew.specs.Limits.{piece_limit}
use Rattle.loader.specs.Parts.{part_of}
use Rattle.loader.proofs.PiecesLemmas.{CutSoFar}
use Rattle.loader.proofs.pieces.pieces_of.Given as goal

abbrev pub invariant-loop-place : goal.invariant-loop-place
invariant-loop-place l = record {
  cut : CutSoFar (map part_of l.parts) (map part_of (drop l.place l.parts)) l.pieces.items;
  many : length l.pieces.items + length l.parts ≤ piece_limit + l.place;
}
