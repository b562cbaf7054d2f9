use Rattle.std.proofs.Common.{◌≡◌, ◌+◌, drop, map, sum_by}
use Rattle.loader.specs.Limits.{listed_limit}
use Rattle.loader.specs.Parts.{part_len, part_of}
use Rattle.script.proofs.listing.is_within_limit.Given as goal

abbrev pub invariant-loop-bytes : goal.invariant-loop-bytes
invariant-loop-bytes l =
    sum_by part_len (map part_of l.listed) + l.left ≡ listed_limit + sum_by part_len (map part_of (drop l.bytes-index l.listed))
