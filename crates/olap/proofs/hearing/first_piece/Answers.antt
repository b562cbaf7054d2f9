use Rattle.std.proofs.Common.{◌∙◌, sym}
use Rattle.olap.proofs.HearingLemmas.{cut_ended, cut_whole}
use Rattle.olap.proofs.hearing.first_piece.Goals as goal

pub returns-in-Some-clause-cut : goal.returns-in-Some-clause-cut
returns-in-Some-clause-cut c = cut_ended c.args.bytes.now c.in-Some.at (sym c.line_end.ensures.place ∙ c.in-Some.is)

pub returns-in-None-clause-cut : goal.returns-in-None-clause-cut
returns-in-None-clause-cut c = cut_whole c.args.bytes.now (sym c.line_end.ensures.place ∙ c.in-None.is)
