use Rattle.std.proofs.Common.{refl}
use Rattle.script.proofs.StopsLemmas.{stopped_at, through_blocks}
use Rattle.script.proofs.laws.strict_stops_at_the_first_refused_line.Goals as goal

pub returns-clause-through : goal.returns-clause-through
returns-clause-through c = λ hash givens lines bytes are. through_blocks are refl

pub returns-clause-stopped : goal.returns-clause-stopped
returns-clause-stopped c =
    let laws = c.a_text_has_one_answer.ensures in
    λ hash givens lines bytes are. stopped_at (record { one_query = laws.one_query; one_fault = laws.one_fault; no_both = laws.no_both }) are refl
