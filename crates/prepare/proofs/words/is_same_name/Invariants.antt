use Rattle.std.proofs.Common.{◌≡◌, drop}
use Rattle.prepare.specs.Words.{is_same_name}
use Rattle.prepare.proofs.words.is_same_name.Given as goal

abbrev pub invariant-loop-place : goal.invariant-loop-place
invariant-loop-place l = is_same_name l.first l.second ≡ is_same_name (drop l.place l.first) (drop l.place l.second)
