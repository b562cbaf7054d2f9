use Rattle.std.proofs.Common.{sym, ◌∙◌}
use Rattle.aggs.proofs.DifferingLemmas.{contains_held, copied_alike}
use Rattle.aggs.proofs.distinct.CountDistinct.contains.Goals as goal

pub returns : goal.returns
returns g c =
    c.is_some.ensures ∙ copied_alike c.get.result
    ∙ sym (contains_held c.self.inside.cells c.args.self.now c.args.cell.now _ c.self.view_is
    (c.entries_are_a_map.ensures.value c.self.inside.cells c.args.cell.now ∙ sym c.get.ensures))
