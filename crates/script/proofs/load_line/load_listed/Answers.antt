use Rattle.std.proofs.Common.{map, subst}
use Rattle.loader.specs.Loads.{AreLoaded}
use Rattle.loader.specs.Parts.{part_of, rows_of_parts}
use Rattle.script.proofs.LoadsLemmas.{loads_held}
use Rattle.script.proofs.load_line.load_listed.Goals as goal

pub returns-in_ok-lay_over-in-Ok : goal.returns-in_ok-lay_over-in-Ok
returns-in_ok-lay_over-in-Ok g c = record {
  step = loads_held _ _ _ c.in-Ok.rows _ _
      (subst (λ t. AreLoaded (rows_of_parts t (map part_of c.args.listed.now)) c.in-Ok.rows) c.schema.ensures c.in-Ok.ensures.loaded) c.in_ok-lay_over-in-Ok.ensures.step;
}
