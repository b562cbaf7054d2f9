use Rattle.std.proofs.Common.{◌≡◌, ◌*◌, ◌≤◌, ◌^◌, length, sum_by, take}
use Rattle.groups.proofs.folding.Folding.groups.Given as goal

abbrev pub invariant-loop-source : goal.invariant-loop-source
invariant-loop-source g l = (l.count ≡ sum_by (λ s. length s.bag) (take l.source-index l.self.sources.items)) × (l.count ≤ l.source-index * 2 ^ 63)
