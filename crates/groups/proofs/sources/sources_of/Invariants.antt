use Rattle.groups.specs.Pools.{ArePlanned}
use Rattle.groups.proofs.sources.sources_of.Given as goal

abbrev pub invariant-loop-columns : goal.invariant-loop-columns
invariant-loop-columns g l = ArePlanned l.sets l.sources.items

abbrev pub decreases-loop-columns : goal.decreases-loop-columns
decreases-loop-columns g l = l.columns
