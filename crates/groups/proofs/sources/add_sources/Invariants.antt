use Rattle.groups.proofs.SourcesLemmas.{Sourced}
use Rattle.groups.proofs.sources.add_sources.Given as goal

abbrev pub invariant-loop-group_set : goal.invariant-loop-group_set
invariant-loop-group_set g l = Sourced l.sets l.columns l.group_set-index l.sources.items
