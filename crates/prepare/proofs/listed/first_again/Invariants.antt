use Rattle.std.proofs.Common.{bytes_eq, take}
use Rattle.std.specs.List.{IsDistinct}
use Rattle.prepare.specs.Listed.{words_in}
use Rattle.prepare.proofs.listed.first_again.Given as goal

-- the words so far differ
abbrev pub invariant-loop-place : goal.invariant-loop-place
invariant-loop-place l = IsDistinct bytes_eq (words_in (take l.place l.columns))
