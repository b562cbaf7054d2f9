use Rattle.query.proofs.QueriesLaws.{answered}
use Rattle.query.proofs.laws.each_text_has_an_answer.Goals as goal

pub returns : goal.returns
returns c = answered
