use Rattle.groups.proofs.CoarseningLemmas.{Coarsening}
use Rattle.groups.proofs.coarsening.coarsened.Given as goal

abbrev pub invariant-loop-group : goal.invariant-loop-group
invariant-loop-group g l = Coarsening l.indexes l.finer l.group-index l.bag
