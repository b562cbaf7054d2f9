use Rattle.std.proofs.Common.{◌≡◌, ◌++◌, ◌≤◌, ◌+◌, length, map}
use Rattle.std.specs.List.{flat_map}
use Rattle.loader.specs.Records.{records_of}
use Rattle.loader.proofs.cutting.parted.Given as goal

abbrev pub invariant-loop-at : goal.invariant-loop-at
invariant-loop-at l = record {
  records : flat_map records_of (map (λ piece. piece.now) l.pieces.items) ++ records_of l.left ≡ records_of l.fn.bytes;
  many : length l.pieces.items + 1 ≤ l.most;
}

abbrev pub decreases-loop-at : goal.decreases-loop-at
decreases-loop-at l = length l.left
