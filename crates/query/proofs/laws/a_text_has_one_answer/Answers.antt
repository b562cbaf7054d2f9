use Rattle.query.proofs.QueriesLaws.{no_both, one_fault, one_query}
use Rattle.query.proofs.laws.a_text_has_one_answer.Goals as goal

pub returns-clause-one_query : goal.returns-clause-one_query
returns-clause-one_query c = one_query

pub returns-clause-one_fault : goal.returns-clause-one_fault
returns-clause-one_fault c = one_fault

pub returns-clause-no_both : goal.returns-clause-no_both
returns-clause-no_both c = no_both
