use Rattle.std.proofs.Common.{◌≡◌, ◌-◌, ◌^◌, length, take}
use Rattle.std.specs.Prelude.{min, sum_by}
use Rattle.loader.proofs.pieces.listed_bytes.Given as goal

abbrev pub invariant-loop-part : goal.invariant-loop-part
invariant-loop-part l = l.bytes ≡ min (sum_by (λ part. length part.1.now) (take l.part-index l.parts)) (2 ^ 64 - 1)
