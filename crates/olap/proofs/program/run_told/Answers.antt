use Rattle.olap.proofs.program.run_told.Goals as goal

pub returns-clause-written : goal.returns-clause-written
returns-clause-written g c = λ ok.
    let wrote = rw c.of-manner.ensures at c.run_input.ensures.written ok in
    rw (← c.viewing.ensures) wrote

pub returns-clause-stopped : goal.returns-clause-stopped
returns-clause-stopped g c = λ stopped.
    let wrote = rw c.of-manner.ensures at c.run_input.ensures.stopped stopped in
    rw (← c.viewing.ensures) wrote

pub returns-clause-beginning : goal.returns-clause-beginning
returns-clause-beginning g c =
    let begun = rw c.of-manner.ensures at c.run_input.ensures.beginning in
    rw (← c.viewing.ensures) begun
