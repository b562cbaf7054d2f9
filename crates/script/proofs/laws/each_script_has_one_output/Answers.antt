use Rattle.script.proofs.BlocksLemmas.{one_output, some_output}
use Rattle.script.proofs.laws.each_script_has_one_output.Goals as goal

pub returns-clause-some : goal.returns-clause-some
returns-clause-some c = some_output c.each_text_has_an_answer.ensures

pub returns-clause-one : goal.returns-clause-one
returns-clause-one c =
    let laws = c.a_text_has_one_answer.ensures in
    one_output (record { one_query = laws.one_query; one_fault = laws.one_fault; no_both = laws.no_both })
