use Rattle.std.proofs.Common.{map, subst}
use Rattle.std.proofs.lemmas.Result.{IfOk-weaker}
use Rattle.loader.specs.Loads.{AreLoaded}
use Rattle.loader.specs.Parts.{part_of, rows_of_parts}
use Rattle.script.proofs.LoadsLemmas.{loads_held}
use Rattle.script.proofs.here.load_listed_here.Goals as goal

pub returns-in-Ok : goal.returns-in-Ok
returns-in-Ok g c = record {
  step = IfOk-weaker c.lay_over_here.result _ _
      (λ block lays. loads_held _ _ _ c.in-Ok.rows _ _
      (subst (λ t. AreLoaded (rows_of_parts t (map part_of c.args.listed.now)) c.in-Ok.rows) c.schema.ensures c.in-Ok.ensures.loaded) lays)
      c.lay_over_here.ensures.step;
}
