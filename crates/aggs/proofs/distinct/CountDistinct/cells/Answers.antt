use Rattle.aggs.proofs.DifferingLemmas.{keys_are}
use Rattle.aggs.proofs.distinct.CountDistinct.cells.Goals as goal

pub returns-clause-keys : goal.returns-clause-keys
returns-clause-keys g c = keys_are c.self.inside.cells c.args.self.now c.self.view_is
