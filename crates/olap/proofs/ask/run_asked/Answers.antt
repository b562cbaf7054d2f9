use Rattle.std.proofs.Common.{inl, inr}
use Rattle.olap.proofs.QueriesLemmas.{ran_not_2}
use Rattle.olap.proofs.ask.run_asked.Goals as goal

pub returns-clause-leaves : goal.returns-clause-leaves
returns-clause-leaves g c =
    let ran = c.run_input.ensures in
    record {
      written = λ ok. (rw c.default.ensures at (ran.written ok), ran.flushed (inl ok));
      stopped = λ stopped. inr (rw c.default.ensures at (ran.stopped stopped), ran.flushed (inr stopped));
      nothing = λ none. absurd (ran_not_2 c.run_input.result.0 ran.status none);
      beginning = λ early. inr (rw c.default.ensures at ran.beginning);
    }
