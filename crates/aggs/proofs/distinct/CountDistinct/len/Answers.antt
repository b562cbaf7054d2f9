use Rattle.std.proofs.Common.{sym, ◌∙◌}
use Rattle.aggs.proofs.DifferingLemmas.{number_held}
use Rattle.aggs.proofs.distinct.CountDistinct.len.Goals as goal

pub returns : goal.returns
returns g c = c.len.ensures
    ∙ sym (number_held c.self.inside.cells c.args.self.now _ c.self.view_is (c.entries_are_a_map.ensures.len c.self.inside.cells c.self.invariant))
