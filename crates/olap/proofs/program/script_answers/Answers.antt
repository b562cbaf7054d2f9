use Rattle.olap.proofs.program.script_answers.Goals as goal

pub returns : goal.returns
returns c =
    let table = rw c.as_slice.ensures.value at c.in_ok-reasons.ensures.table in
    rw (← table, ← c.schema.ensures) c.answers.ensures
