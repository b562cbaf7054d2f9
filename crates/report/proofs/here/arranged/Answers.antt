use Rattle.std.proofs.Common.{ap₂, ◌∙◌}
use Rattle.report.proofs.PiecesLemmas.{listed_as}
use Rattle.report.specs.Arranging.{arranged}
use Rattle.report.proofs.here.arranged.Goals as goal

pub returns : goal.returns
returns g c = record {
  are = λ rs left same.
      let plan = c.args.plan.now in
      let all = c.requires in
      let moved = listed_as c.a_map_has_its_entries.ensures _ _ rs all.all left same in
      let came = all.are ∙ c.any_order.ensures.report plan _ rs moved in
      c.in_ok-arrange.ensures ∙ ap₂ (arranged c.args.arrangement.now) c.headings.ensures came;
}
