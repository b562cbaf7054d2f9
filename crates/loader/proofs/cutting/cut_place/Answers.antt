use Rattle.std.proofs.Common.{◌∙◌, sym}
use Rattle.loader.proofs.EndsLemmas.{line_cut}
use Rattle.loader.proofs.cutting.cut_place.Goals as goal

pub returns-then-is_simple-clause-cut : goal.returns-then-is_simple-clause-cut
returns-then-is_simple-clause-cut c = (c.in-Some.ensures.0, line_cut c.args.bytes.now c.in-Some.at c.in-Some.ensures.1 (sym c.is_simple.ensures ∙ c.if-is_simple.true))
