use Rattle.std.proofs.Common.{◌≡◌, map, take}
use Rattle.groups.specs.Columnar.{accs_at}
use Rattle.groups.proofs.columnar.accumulators_at.Given as goal

abbrev pub invariant-loop-accs : goal.invariant-loop-accs
invariant-loop-accs g l = l.all.items ≡ accs_at l.at (map (λ accs. accs.items) (take l.accs-index l.tallies))
