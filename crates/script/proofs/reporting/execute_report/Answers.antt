use Rattle.std.proofs.lemmas.Result.{IfOk-weaker}
use Rattle.script.proofs.SaysLemmas.{answers_plan, answers_refused}
use Rattle.script.proofs.reporting.execute_report.Goals as goal

pub returns-in-Ok : goal.returns-in-Ok
returns-in-Ok g c =
    let laws = c.a_text_has_one_answer.ensures in
    IfOk-weaker c.ask.result _ _ (λ block. answers_plan (record { one_query = laws.one_query; one_fault = laws.one_fault; no_both = laws.no_both }) c.args.last.now c.args.number c.args.text.now c.in-Ok.plan block (rw c.schema.ensures at c.in-Ok.ensures)) c.ask.ensures

pub returns-in_ok-block-in-Err : goal.returns-in_ok-block-in-Err
returns-in_ok-block-in-Err g c =
    answers_refused c.args.last.now c.args.number c.args.text.now c.in-Err.fault c.in_ok-block-in-Err.block (rw c.schema.ensures at c.in-Err.ensures) c.in_ok-block-in-Err.ensures.memory c.in_ok-block-in-Err.ensures.block
