use Rattle.std.proofs.Common.{ℕ, ◌<◌}
use Rattle.groups.specs.Parting.{IsTurned}
use Rattle.groups.proofs.renumbering.are_turned.Given as goal

abbrev pub invariant-loop-at : goal.invariant-loop-at
invariant-loop-at l = record {
  there : (n : ℕ) → n < l.at → IsTurned l.order l.ranks n;
  back : (n : ℕ) → n < l.at → IsTurned l.ranks l.order n;
}
