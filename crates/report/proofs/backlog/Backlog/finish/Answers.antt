use Rattle.std.proofs.Common.{◌≡◌, [], arith, refl, rules}
use Rattle.report.proofs.WaitingLemmas.{begins_wholly, ends_early, front_on, wholly}
use Rattle.report.specs.Laws.{takes_start}
use Rattle.report.proofs.backlog.Backlog.finish.Goals as goal

pub loop-self-init : goal.loop-self-init
loop-self-init g c = record {
  written = λ text awaits. record { rest = text; taken = takes_start _ text; awaits = awaits };
  sound = refl;
  fewer = omega arith;
}

pub loop-self-preserved : goal.loop-self-preserved
loop-self-preserved g c = record {
  written = λ text awaits.
      let so_far = c.loop-self.invariant.written text awaits in
      (front_on _ _ _ _ _ _ _ so_far (c.in_ok-write_oldest.ensures.goes_on.written so_far.rest so_far.awaits)).front;
  sound = search rules;
  fewer = omega (arith, c.in_ok-write_oldest.ensures.fewer, c.loop-self.invariant.fewer);
}

pub returns-in_err-write_oldest-clause-whole : goal.returns-in_err-write_oldest-clause-whole
returns-in_err-write_oldest-clause-whole g c = record {
  written = search rules;
  beginning = λ text awaits.
      let so_far = c.loop-self.invariant.written text awaits in
      ends_early _ _ _ _ _ _ _ _ so_far (c.in_err-write_oldest.ensures.goes_on.written so_far.rest so_far.awaits);
  sound = search rules;
  fault = search rules;
}

pub returns-in_err-write_oldest-clause-worker : goal.returns-in_err-write_oldest-clause-worker
returns-in_err-write_oldest-clause-worker g c = λ late. omega (arith, c.in_err-write_oldest.ensures.fewer, c.loop-self.invariant.fewer)

pub returns-clause-whole : goal.returns-clause-whole
returns-clause-whole g c = record {
  written = λ text awaits.
      let none : c.loop-self.self.reports ≡ [] = search rules in
      wholly _ _ _ _ _ _ none (c.loop-self.invariant.written text awaits) c.write_after.ensures.written;
  beginning = λ text awaits.
      let none : c.loop-self.self.reports ≡ [] = search rules in
      begins_wholly _ _ _ _ _ _ none (c.loop-self.invariant.written text awaits) c.write_after.ensures.beginning;
  sound = search rules;
  fault = search rules;
}
