use Rattle.script.proofs.RetellingLemmas.{report_refused, report_told}
use Rattle.script.proofs.retelling.block_of_report.Goals as goal

pub returns-in-Ok : goal.returns-in-Ok
returns-in-Ok g c = λ t rs has is.
    let laws = c.a_text_has_one_answer.ensures in
    report_told (record { one_query = laws.one_query; one_fault = laws.one_fault; no_both = laws.no_both }) c.args.manner.now c.args.walk.now.number c.args.walk.now.edition c.args.walk.now.schema c.in-Some.schema t rs c.args.query.now c.in-Ok.plan c.args.told c.answer_of_told.result
    c.in-Some.is has c.in-Ok.ensures is c.answer_of_told.ensures

pub returns-in_ok-block-in-Err : goal.returns-in_ok-block-in-Err
returns-in_ok-block-in-Err g c = λ t rs has is.
    report_refused c.args.manner.now c.args.walk.now.number c.args.walk.now.edition c.args.walk.now.schema c.in-Some.schema t rs c.args.query.now c.in-Err.fault c.in_ok-block-in-Err.block.items
    c.in-Some.is has c.in-Err.ensures c.in_ok-block-in-Err.ensures.memory c.in_ok-block-in-Err.ensures.block
